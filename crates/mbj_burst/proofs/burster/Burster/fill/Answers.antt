-- The next job is written into the next cell.
use Rattle.std.proofs.Common.{◌≡◌, ◌∙◌, ◌+◌, ◌<◌, ◌++◌, ◌∷◌, List, suc, length, drop, take, ap, sym, arith}
use Rattle.std.proofs.lemmas.List.{drop-drop}
use Rattle.std.specs.Vec.Iter.{into_iter_items}
use Rattle.mbj_types.specs.declared.job.Job.{Job}
use Rattle.mbj_manager.specs.State.{ManagerState, with_open_at}
use Rattle.mbj_burst.proofs.BurstLines.{one-more-written}
use Rattle.mbj_burst.proofs.burster.Burster.fill.Goals as goal

pub loop-index-preserved : goal.loop-index-preserved
loop-index-preserved c =
    let i = c.loop-index.index in
    let js = into_iter_items c.args.jobs.now in
    let left = into_iter_items c.next.new.self in
    let old : ManagerState = c.args.self.now.manager in
    let job = c.in-Some.job in
    let step : drop i js ≡ job ∷ left = sym c.loop-index.invariant.rest ∙ c.in-Some.ensures.items in
    let below : i < length old.opened = omega (arith, c.requires.opened, c.loop-index-test.true) in
    let next : suc i ≡ i + 1 = omega arith in
    record {
      manager = ap (λ (h : ManagerState). with_open_at h i job) c.loop-index.invariant.manager
          ∙ ap (λ (os : List Job). record old { opened = os })
          (one-more-written i js old.opened left job step below ∙ ap (λ k. take k js ++ drop k old.opened) next);
      rest = sym (ap (λ (ks : List Job). drop 1 ks) step) ∙ drop-drop 1 i js;
      results = c.loop-index.invariant.results;
      lines = c.loop-index.invariant.lines;
    }
