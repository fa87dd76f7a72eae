-- The lane queue of the earliest job runs, with what it keeps.
use Rattle.std.proofs.Common.{◌≡◌, ◌<◌, [], Some, map, vec_capacity, sym, subst}
use Rattle.mbj_manager.specs.Machine.Course.{stages_left}
use Rattle.mbj_manager.specs.State.{ManagerState}
use Rattle.mbj_manager.specs.Inside.Standing.{IsInCourse}
use Rattle.mbj_manager.specs.Inside.Added.{first_lane}
use Rattle.mbj_manager.specs.Inside.Courses.{courses, ring_number}
use Rattle.mbj_manager.specs.Inside.Held.{held, lines_in}
use Rattle.mbj_manager.proofs.Running.{idle-keeps}
use Rattle.mbj_manager.proofs.Moving.{first-machine, first-ready, room-in, runs-first}
use Rattle.mbj_manager.specs.Machine.Queues.{run_within}
use Rattle.mbj_manager.specs.declared.lane.Cause.TheVariants as cause
use Rattle.mbj_manager.proofs.engine.Engine.run_first.Goals as goal

pub run-requires-clause-ready : goal.run-requires-clause-ready
run-requires-clause-ready c =
    let w = c.self.inside in
    let y = c.self.invariant in
    let idle = subst (λ (h : ManagerState). h.machine.agenda ≡ []) (sym c.self.view_is) c.requires.idle in
    let first = subst (λ (h : ManagerState). first_lane h.machine.left ≡ Some c.args.kind) (sym c.self.view_is) c.requires.first in
    rw c.deref_mut.ensures.value (first-ready c.args.kind (courses w.ring) (map (ring_number w.ring) w.agenda.places.items) (lines_in w.ring w.queues.value)
    w.queues.value.flush_runs (vec_capacity w.agenda.places) idle first y.within y.tied
    (room-in c.args.kind w.ring w.agenda.places.items w.queues.value (vec_capacity w.agenda.places) y))

pub invariant_of-self : goal.invariant_of-self
invariant_of-self c =
    let w = c.self.inside in
    let y = c.self.invariant in
    let idle = subst (λ (h : ManagerState). h.machine.agenda ≡ []) (sym c.self.view_is) c.requires.idle in
    let first = subst (λ (h : ManagerState). first_lane h.machine.left ≡ Some c.args.kind) (sym c.self.view_is) c.requires.first in
    let others = rw c.deref_mut.ensures.value at c.run.ensures.others in
    let ran = rw c.deref_mut.ensures.value at c.run.ensures.ran in
    rw c.run.ensures.room
    (runs-first c.args.kind w.ring c.run.new.ring w.agenda.places.items c.run.new.agenda.places.items w.queues.value c.run.new.self (vec_capacity w.agenda.places) y
    idle first c.run.ensures.ring others ran).kept

pub returns-clause-ran : goal.returns-clause-ran
returns-clause-ran c =
    let w = c.self.inside in
    let y = c.self.invariant in
    let idle = subst (λ (h : ManagerState). h.machine.agenda ≡ []) (sym c.self.view_is) c.requires.idle in
    let first = subst (λ (h : ManagerState). first_lane h.machine.left ≡ Some c.args.kind) (sym c.self.view_is) c.requires.first in
    let others = rw c.deref_mut.ensures.value at c.run.ensures.others in
    let ran = rw c.deref_mut.ensures.value at c.run.ensures.ran in
    let new = held c.run.new.ring c.run.new.agenda.places.items c.run.new.self in
    subst (λ (h : ManagerState). new ≡ record h { machine = run_within cause.Flush c.args.kind h.machine }) c.self.view_is
    (runs-first c.args.kind w.ring c.run.new.ring w.agenda.places.items c.run.new.agenda.places.items w.queues.value c.run.new.self (vec_capacity w.agenda.places) y
    idle first c.run.ensures.ring others ran).is

pub returns-clause-stages : goal.returns-clause-stages
returns-clause-stages c =
    let m = c.args.self.now.machine in
    let within = subst (λ (h : ManagerState). IsInCourse h.machine) c.self.view_is c.self.invariant.within in
    subst (λ (h : ManagerState). stages_left h.machine.left < stages_left m.left) (sym (returns-clause-ran c))
    (idle-keeps c.args.kind m (first-machine c.args.kind m c.requires.idle c.requires.first within)).fewer
