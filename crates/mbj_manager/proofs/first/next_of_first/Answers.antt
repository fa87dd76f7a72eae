-- The first cell is looked at, and stays.
use Rattle.std.proofs.Common.{◌∙◌, Some, ap, sym}
use Rattle.std.specs.Option.{option_copied_mut}
use Rattle.mbj_ring.specs.Ring.{ring}
use Rattle.mbj_manager.proofs.RingCourses.{first-is, first-none, first-set}
use Rattle.mbj_manager.proofs.first.next_of_first.Goals as goal

pub returns-in-Some-clause-same : goal.returns-in-Some-clause-same
returns-in-Some-clause-same c =
    let r = c.args.ring.now in
    ap (λ vs. ring vs r.opened r.first) (first-set r.values c.in-Some.cell.now (sym c.front_mut.ensures.value ∙ ap option_copied_mut c.in-Some.is))

pub returns-in-Some-clause-stage : goal.returns-in-Some-clause-stage
returns-in-Some-clause-stage c =
    ap Some c.next_stage.ensures
    ∙ sym (first-is c.args.ring.now.values c.in-Some.cell.now (sym c.front_mut.ensures.value ∙ ap option_copied_mut c.in-Some.is))

pub returns-in-None-clause-stage : goal.returns-in-None-clause-stage
returns-in-None-clause-stage c =
    sym (first-none c.args.ring.now.values (sym c.front_mut.ensures.value ∙ ap option_copied_mut c.in-None.is))
