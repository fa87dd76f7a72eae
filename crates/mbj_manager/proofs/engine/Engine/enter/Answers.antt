-- The first job that was open goes last, goes on at once, and then the course is followed.
use Rattle.std.proofs.Common.{◌≡◌, ◌<◌, ◌∙◌, [], length, length-append, length-set, set, vec_capacity, ap, sym, subst, arith}
use Rattle.std.specs.Option.{option_copied_mut}
use Rattle.mbj_ring.specs.declared.ring.TheConstants.{CELLS}
use Rattle.mbj_manager.specs.State.{ManagerState, entered}
use Rattle.mbj_manager.specs.declared.lane.Cause.TheVariants as cause
use Rattle.mbj_manager.specs.Machine.Course.{course}
use Rattle.mbj_manager.specs.Inside.Added.{added, with_step}
use Rattle.mbj_manager.specs.Inside.Standing.{IsInCourse}
use Rattle.mbj_manager.specs.Inside.Held.{held}
use Rattle.mbj_manager.proofs.Adding.{adds-committed}
use Rattle.mbj_manager.proofs.CallLaws.{entered-stepped}
use Rattle.mbj_manager.proofs.RingCourses.{first-open, none-open, open-at}
use Rattle.mbj_manager.proofs.engine.Engine.enter.Goals as goal

pub begin-is_expanded-requires-clause-is_open : goal.begin-is_expanded-requires-clause-is_open
begin-is_expanded-requires-clause-is_open c =
    open-at 0 c.self.inside.ring.opened c.in-Some.cell.now (sym c.open_mut.ensures.value ∙ ap option_copied_mut c.in-Some.is) c.self.invariant.is_open

pub unreachable-requires : goal.unreachable-requires
unreachable-requires c =
    none-open c.self.inside.ring.opened (sym c.open_mut.ensures.value ∙ ap option_copied_mut c.in-None.is)
    (subst (λ (h : ManagerState). 0 < length h.opened) (sym c.self.view_is) c.requires.some)

pub prove-unreachable-requires : goal.prove-unreachable-requires
prove-unreachable-requires c =
    let r = c.self.inside.ring in
    let first = first-open r.opened c.in-Some.cell.now (sym c.open_mut.ensures.value ∙ ap option_copied_mut c.in-Some.is) in
    omega (arith, length-append r.values (set r.opened 0 c.begin-is_expanded.new.self), length-set r.opened 0 c.begin-is_expanded.new.self, ap length first, c.len.ensures.len, c.len.ensures.within.0)

pub commit-place-requires : goal.commit-place-requires
commit-place-requires c =
    let r = c.self.inside.ring in
    let first = first-open r.opened c.in-Some.cell.now (sym c.open_mut.ensures.value ∙ ap option_copied_mut c.in-Some.is) in
    record { is_open = omega (arith, length-set r.opened 0 c.begin-is_expanded.new.self, ap length first) }

pub go_on-requires-clause-place : goal.go_on-requires-clause-place
go_on-requires-clause-place c = omega (arith, c.commit-place.ensures.place)

pub go_on-requires-clause-held : goal.go_on-requires-clause-held
go_on-requires-clause-held c =
    let w = c.self.inside in
    let idle = subst (λ (h : ManagerState). h.machine.agenda ≡ []) (sym c.self.view_is) c.requires.idle in
    let room : length w.ring.values < CELLS = omega (arith, c.if-prove.false, c.len.ensures.len) in
    rw c.deref_mut.ensures.value
    (adds-committed w.ring c.commit-place.new.self c.in-Some.cell.now c.begin-is_expanded.new.self c.commit-place.result w.agenda.places.items w.queues.value
    (vec_capacity w.agenda.places) c.self.invariant idle (sym c.open_mut.ensures.value ∙ ap option_copied_mut c.in-Some.is) c.begin-is_expanded.ensures.begun
    room c.commit-place.ensures.place c.commit-place.ensures.values).kept

pub invariant_of-self : goal.invariant_of-self
invariant_of-self c = rw c.go_on.ensures.room c.go_on.ensures.kept

pub returns-clause-entered : goal.returns-clause-entered
returns-clause-entered c =
    let w = c.self.inside in
    let h : ManagerState = held w.ring w.agenda.places.items w.queues.value in
    let idle = subst (λ (g : ManagerState). g.machine.agenda ≡ []) (sym c.self.view_is) c.requires.idle in
    let room : length w.ring.values < CELLS = omega (arith, c.if-prove.false, c.len.ensures.len) in
    let is = adds-committed w.ring c.commit-place.new.self c.in-Some.cell.now c.begin-is_expanded.new.self c.commit-place.result w.agenda.places.items w.queues.value
    (vec_capacity w.agenda.places) c.self.invariant idle (sym c.open_mut.ensures.value ∙ ap option_copied_mut c.in-Some.is) c.begin-is_expanded.ensures.begun
    room c.commit-place.ensures.place c.commit-place.ensures.values in
    let some = subst (λ (g : ManagerState). 0 < length g.opened) (sym c.self.view_is) c.requires.some in
    let went = rw c.deref_mut.ensures.value at c.go_on.ensures.step in
    let new : ManagerState = held c.go_on.new.ring c.go_on.new.agenda.places.items c.go_on.new.queues in
    let step : new ≡ with_step cause.Submit (added h.opened h) = went ∙ ap (with_step cause.Submit) is.is in
    c.follow_course.ensures.course ∙ ap (λ (g : ManagerState). record g { machine = course cause.Submit g.machine }) step
    ∙ entered-stepped h.opened h some (subst (λ (g : ManagerState). IsInCourse g.machine) is.is is.kept.within)
    ∙ ap entered c.self.view_is
