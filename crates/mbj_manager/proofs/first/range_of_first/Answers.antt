-- The first cell is looked at, and stays.
use Rattle.std.proofs.Common.{◌∙◌, Some, ap, sym}
use Rattle.std.specs.Option.{option_copied_mut}
use Rattle.mbj_ring.specs.Ring.{ring}
use Rattle.mbj_manager.proofs.RingCourses.{first-set}
use Rattle.mbj_manager.proofs.Writing.{first-range-is, first-range-none}
use Rattle.mbj_manager.proofs.first.range_of_first.Goals as goal

pub returns-in-Some-clause-same : goal.returns-in-Some-clause-same
returns-in-Some-clause-same c =
    let r = c.args.ring.now in
    ap (λ vs. ring vs r.opened r.first) (first-set r.values c.in-Some.cell.now (sym c.front_mut.ensures.value ∙ ap option_copied_mut c.in-Some.is))

pub returns-in-Some-clause-range : goal.returns-in-Some-clause-range
returns-in-Some-clause-range c =
    ap Some c.range.ensures
    ∙ sym (first-range-is c.args.ring.now.values c.in-Some.cell.now (sym c.front_mut.ensures.value ∙ ap option_copied_mut c.in-Some.is))

pub returns-in-None-clause-range : goal.returns-in-None-clause-range
returns-in-None-clause-range c =
    sym (first-range-none c.args.ring.now.values (sym c.front_mut.ensures.value ∙ ap option_copied_mut c.in-None.is))
