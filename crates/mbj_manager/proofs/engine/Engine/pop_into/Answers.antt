-- The cell of the earliest job is given back.
use Rattle.std.proofs.Common.{◌∙◌, Some, vec_capacity, ap, sym, subst}
use Rattle.mbj_ring.specs.Ring.{RingState}
use Rattle.mbj_stage.specs.CourseState.{owed}
use Rattle.mbj_manager.specs.State.{ManagerState, after_get_completed}
use Rattle.mbj_manager.specs.Cells.{Cell, IsFinished, course_in}
use Rattle.mbj_manager.specs.Inside.Held.{IsHeld, held}
use Rattle.mbj_manager.proofs.Popping.{first-of, same-first}
use Rattle.mbj_manager.proofs.engine.Engine.pop_into.Goals as goal

pub give-requires-clause-some : goal.give-requires-clause-some
give-requires-clause-some c =
    let w = c.self.inside in
    (first-of c.args.self.now w.ring w.agenda.places.items w.queues.value (vec_capacity w.agenda.places) c.self.view_is c.self.invariant c.requires.idle c.requires.done).some

pub invariant_of-self : goal.invariant_of-self
invariant_of-self c =
    let w = c.self.inside in
    subst (λ (r : RingState Cell). IsHeld r w.agenda.places.items w.queues.value (vec_capacity w.agenda.places)) (sym c.give.ensures.rest)
    (first-of c.args.self.now w.ring w.agenda.places.items w.queues.value (vec_capacity w.agenda.places) c.self.view_is c.self.invariant c.requires.idle c.requires.done).given.kept

pub returns-clause-result : goal.returns-clause-result
returns-clause-result c =
    let w = c.self.inside in
    let first = first-of c.args.self.now w.ring w.agenda.places.items w.queues.value (vec_capacity w.agenda.places) c.self.view_is c.self.invariant c.requires.idle c.requires.done in
    ap (λ (v : Cell). Some (owed (course_in v))) (same-first w.ring.values c.give.new.given first.first c.give.ensures.given first.is)
    ∙ first.given.result ∙ ap (λ (h : ManagerState). (after_get_completed h).0) c.self.view_is

pub returns-clause-finished : goal.returns-clause-finished
returns-clause-finished c =
    let w = c.self.inside in
    let first = first-of c.args.self.now w.ring w.agenda.places.items w.queues.value (vec_capacity w.agenda.places) c.self.view_is c.self.invariant c.requires.idle c.requires.done in
    subst IsFinished (sym (same-first w.ring.values c.give.new.given first.first c.give.ensures.given first.is)) first.finished

pub returns-clause-state : goal.returns-clause-state
returns-clause-state c =
    let w = c.self.inside in
    ap (λ (r : RingState Cell). held r w.agenda.places.items w.queues.value) c.give.ensures.rest
    ∙ (first-of c.args.self.now w.ring w.agenda.places.items w.queues.value (vec_capacity w.agenda.places) c.self.view_is c.self.invariant c.requires.idle c.requires.done).given.is
    ∙ ap (λ (h : ManagerState). (after_get_completed h).1) c.self.view_is
