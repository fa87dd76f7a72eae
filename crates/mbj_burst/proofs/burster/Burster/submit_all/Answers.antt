-- One group was handed over, and the others are left.
use Rattle.std.proofs.Common.{◌≡◌, ◌∙◌, ◌+◌, ◌-◌, ◌++◌, List, length, min, take, ap, append_assoc, arith}
use Rattle.std.proofs.lemmas.List.{length-drop, take-append-drop}
use Rattle.std.specs.Vec.Iter.{into_iter_items}
use Rattle.mbj_types.specs.declared.job.Job.{Job}
use Rattle.mbj_burst.specs.Inside.State.{state_of}
use Rattle.mbj_burst.proofs.BurstLines.{groups-step}
use Rattle.mbj_burst.proofs.burster.Burster.submit_all.Goals as goal

pub groups-preserved : goal.groups-preserved
groups-preserved c =
    let i = c.groups.invariant in
    let told = c.in_ok-hand_over.ensures in
    let old = c.groups.self in
    let new = c.hand_over.new.self in
    let n = c.min-count.result in
    let now = c.groups.left - n in
    let jobs = into_iter_items c.groups.jobs in
    let left = into_iter_items c.hand_over.new.jobs in
    let is_n : n ≡ min (length jobs) c.args.size = omega (arith, c.min-count.ensures, i.count) in
    let is_now : now + n ≡ length jobs = omega (arith, c.min-count.ensures, i.count) in
    record {
      left = groups-step c.args.size n now i.left.steps jobs left old.lines.items new.lines.items _ (state_of old) (state_of new) _
          (omega (arith, i.count, c.groups-test.true)) (omega (arith, i.count, i.left.enough))
          (omega (arith, c.min-count.ensures, c.groups-test.true, c.requires.size)) is_n is_now told.rest told.lines told.state i.left.told i.left.state;
      count = omega (arith, is_now, ap length told.rest, length-drop n jobs);
      results = (
        i.results.0 ++ take n jobs,
        told.results i.results.0 i.results.1,
        append_assoc i.results.0 (take n jobs) left
            ∙ ap (λ (js : List Job). i.results.0 ++ js) (ap (λ (js : List Job). take n jobs ++ js) told.rest ∙ take-append-drop n jobs) ∙ i.results.2,
      );
      closed = told.closed;
      room = omega (arith, i.room, told.jobs, told.room, is_now, i.count);
    }
