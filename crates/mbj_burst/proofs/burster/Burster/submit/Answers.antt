-- What is given back or owed then is what was so before, and the jobs that were submitted.
use Rattle.std.proofs.Common.{◌≡◌, ◌∙◌, ◌-◌, ◌++◌, length, take, map, min, replicate, ap, arith, length-append}
use Rattle.std.proofs.lemmas.List.{length-map, length-replicate, length-take}
use Rattle.std.specs.Vec.Iter.{into_iter_items}
use Rattle.mbj_types.specs.Blank.{blank}
use Rattle.mbj_types.specs.Result.{result_of}
use Rattle.mbj_ring.specs.declared.ring.TheConstants.{CELLS}
use Rattle.mbj_manager.specs.State.{ManagerState}
use Rattle.mbj_burst.proofs.burster.Burster.submit.Goals as goal

pub returns-clause-jobs : goal.returns-clause-jobs
returns-clause-jobs c =
    let n = c.get_next_burst-open.result in
    let js = into_iter_items c.args.jobs.now in
    let old : ManagerState = c.args.self.now.manager in
    let blanks = min c.args.count (CELLS - length old.owed) - length old.opened in
    let filled : ManagerState = c.fill.new.self.manager in
    let out = c.fill.new.self.results.items in
    let results : length out ≡ length c.args.self.now.results.items = cc in
    let owes : length filled.owed ≡ length old.owed
    = ap (λ (h : ManagerState). length h.owed) c.fill.ensures.manager ∙ ap (λ (h : ManagerState). length h.owed) c.get_next_burst-open.ensures.state in
    omega (
      arith,
      ap length c.submit_burst-given.ensures.order,
      length-append c.submit_burst-given.new.out.items c.submit_burst-given.new.self.owed,
      length-append out (filled.owed ++ map result_of (take n filled.opened)),
      length-append filled.owed (map result_of (take n filled.opened)),
      length-map (take n filled.opened) result_of,
      length-take n filled.opened,
      ap (λ (h : ManagerState). length h.opened) c.fill.ensures.manager,
      length-take n js,
      c.get_next_burst-open.ensures.size,
      ap (λ (h : ManagerState). length h.opened) c.get_next_burst-open.ensures.state,
      length-append old.opened (replicate blanks blank),
      length-replicate blanks blank,
      ap length c.requires.closed,
      c.requires.count,
    )
