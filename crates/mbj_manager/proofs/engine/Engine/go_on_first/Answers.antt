-- The agenda's first job goes on.
use Rattle.std.proofs.Common.{◌≤◌, ◌<◌, ◌∙◌, List, ℕ, ap, refl, subst, sym, vec_capacity}
use Rattle.mbj_manager.specs.Inside.Added.{with_step}
use Rattle.mbj_manager.specs.Inside.Held.{IsHeld, held}
use Rattle.mbj_manager.specs.Inside.Standing.{IsInCourse}
use Rattle.mbj_manager.specs.Inside.Steps.{steps_ahead}
use Rattle.mbj_manager.specs.Machine.Course.{stages_left}
use Rattle.mbj_manager.specs.Machine.Queues.{Machine}
use Rattle.mbj_manager.specs.State.{ManagerState}
use Rattle.mbj_manager.proofs.CourseEnds.{step-of}
use Rattle.mbj_manager.proofs.engine.Engine.go_on_first.Goals as goal

pub go_on-requires-clause-held : goal.go_on-requires-clause-held
go_on-requires-clause-held c =
    let w = c.self.inside in
    let t = c.take_first-place in
    rw (c.deref_mut.ensures.value, t.ensures.room)
    (subst (λ (agenda : List ℕ). IsHeld w.ring agenda w.queues.value (vec_capacity w.agenda.places)) t.ensures.first c.self.invariant)

pub invariant_of-self : goal.invariant_of-self
invariant_of-self c = rw c.go_on.ensures.room c.go_on.ensures.kept

pub returns-clause-step : goal.returns-clause-step
returns-clause-step c =
    let w = c.self.inside in
    let step = rw c.deref_mut.ensures.value at c.go_on.ensures.step in
    step
    ∙ ap (λ (agenda : List ℕ). with_step c.args.cause (held w.ring agenda w.queues.value)) (sym c.take_first-place.ensures.first)
    ∙ ap (with_step c.args.cause) c.self.view_is

pub returns-clause-fewer : goal.returns-clause-fewer
returns-clause-fewer c =
    let m : Machine = c.args.self.now.machine in
    let within : IsInCourse m = subst (λ (h : ManagerState). IsInCourse h.machine) c.self.view_is c.self.invariant.within in
    subst (λ (x : Machine). steps_ahead x < steps_ahead m) (sym (ap (λ (h : ManagerState). h.machine) (returns-clause-step c)))
    (step-of c.args.cause m.agenda m refl c.requires within).entry_view

pub returns-clause-stages : goal.returns-clause-stages
returns-clause-stages c =
    let m : Machine = c.args.self.now.machine in
    let within : IsInCourse m = subst (λ (h : ManagerState). IsInCourse h.machine) c.self.view_is c.self.invariant.within in
    subst (λ (x : Machine). stages_left x.left ≤ stages_left m.left) (sym (ap (λ (h : ManagerState). h.machine) (returns-clause-step c)))
    (step-of c.args.cause m.agenda m refl c.requires within).fewer
