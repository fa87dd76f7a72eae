-- The earliest job is given back.
use Rattle.std.proofs.Common.{◌≡◌, ◌∙◌, IfSome, Option, Some, vec_capacity, ap, sym, subst}
use Rattle.mbj_ring.specs.Ring.{RingState}
use Rattle.mbj_stage.specs.CourseState.{owed}
use Rattle.mbj_manager.specs.State.{ManagerState, after_get_completed}
use Rattle.mbj_manager.specs.Cells.{Cell, IsFinished, course_in}
use Rattle.mbj_manager.specs.Inside.Held.{IsHeld, held}
use Rattle.mbj_manager.proofs.Popping.{first-of}
use Rattle.mbj_manager.proofs.engine.Engine.pop.Goals as goal

pub pop-requires : goal.pop-requires
pop-requires c =
    let w = c.self.inside in
    let first = first-of c.args.self.now w.ring w.agenda.places.items w.queues.value (vec_capacity w.agenda.places) c.self.view_is c.self.invariant c.requires.idle c.requires.done in
    record { some = first.some; finished = subst (λ (o : Option Cell). IfSome o IsFinished) (sym first.is) first.finished }

pub invariant_of-self : goal.invariant_of-self
invariant_of-self c =
    let w = c.self.inside in
    subst (λ (r : RingState Cell). IsHeld r w.agenda.places.items w.queues.value (vec_capacity w.agenda.places)) (sym c.pop.ensures.rest)
    (first-of c.args.self.now w.ring w.agenda.places.items w.queues.value (vec_capacity w.agenda.places) c.self.view_is c.self.invariant c.requires.idle c.requires.done).given.kept

pub returns-clause-result : goal.returns-clause-result
returns-clause-result c =
    let w = c.self.inside in
    let first = first-of c.args.self.now w.ring w.agenda.places.items w.queues.value (vec_capacity w.agenda.places) c.self.view_is c.self.invariant c.requires.idle c.requires.done in
    ap Some (subst (λ (o : Option Cell). IfSome o (λ v. c.pop.result ≡ owed (course_in v))) first.is c.pop.ensures.result)
    ∙ first.given.result ∙ ap (λ (h : ManagerState). (after_get_completed h).0) c.self.view_is

pub returns-clause-state : goal.returns-clause-state
returns-clause-state c =
    let w = c.self.inside in
    ap (λ (r : RingState Cell). held r w.agenda.places.items w.queues.value) c.pop.ensures.rest
    ∙ (first-of c.args.self.now w.ring w.agenda.places.items w.queues.value (vec_capacity w.agenda.places) c.self.view_is c.self.invariant c.requires.idle c.requires.done).given.is
    ∙ ap (λ (h : ManagerState). (after_get_completed h).1) c.self.view_is
