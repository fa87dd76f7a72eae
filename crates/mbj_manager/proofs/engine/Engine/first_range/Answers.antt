-- The ring stays, and its first course tells the range.
use Rattle.std.proofs.Common.{◌∙◌, ap, subst, sym, vec_capacity}
use Rattle.mbj_ring.specs.Ring.{RingState}
use Rattle.mbj_manager.specs.Cells.{Cell}
use Rattle.mbj_manager.specs.Inside.Courses.{courses}
use Rattle.mbj_manager.specs.Inside.Held.{IsHeld, find_in, held, lines_in}
use Rattle.mbj_manager.specs.Written.{first_range}
use Rattle.mbj_manager.proofs.Writing.{first-range-held}
use Rattle.mbj_manager.proofs.engine.Engine.first_range.Goals as goal

pub invariant_of-self : goal.invariant_of-self
invariant_of-self c =
    let w = c.self.inside in
    subst (λ (r : RingState Cell). IsHeld r w.agenda.places.items w.queues.value (vec_capacity w.agenda.places)) (sym c.range_of_first.ensures.same)
    c.self.invariant

pub returns-clause-same : goal.returns-clause-same
returns-clause-same c =
    let w = c.self.inside in
    ap (λ (r : RingState Cell). held r w.agenda.places.items w.queues.value) c.range_of_first.ensures.same ∙ c.self.view_is

pub returns-clause-range : goal.returns-clause-range
returns-clause-range c =
    let w = c.self.inside in
    c.range_of_first.ensures.range ∙ sym (first-range-held 0 (find_in (lines_in w.ring w.queues.value)) (courses w.ring))
    ∙ ap first_range c.self.view_is
