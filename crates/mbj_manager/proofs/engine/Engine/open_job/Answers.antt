-- The job in the open cell is lent, and what is written there is that open job.
use Rattle.std.proofs.Common.{◌<◌, length, refl, sym, subst, arith}
use Rattle.std.proofs.lemmas.List.{length-map}
use Rattle.mbj_manager.specs.State.{ManagerState}
use Rattle.mbj_manager.specs.Cells.{job_in}
use Rattle.mbj_manager.proofs.RingCourses.{job-at, open-at, written-open}
use Rattle.mbj_manager.proofs.engine.Engine.open_job.Goals as goal

pub open_at-requires : goal.open_at-requires
open_at-requires c =
    let some = subst (λ (h : ManagerState). c.args.number < length h.opened) (sym c.self.view_is) c.requires in
    omega (arith, some, length-map c.self.inside.ring.opened job_in)

pub job_mut-requires : goal.job_mut-requires
job_mut-requires c = open-at c.args.number c.self.inside.ring.opened c.open_at.result.now c.open_at.ensures.value c.self.invariant.is_open

pub returns : goal.returns
returns c =
    let w = c.self.inside in
    rw (← c.self.view_is) (
      (refl, λ j i. written-open w.ring c.args.number j w.agenda.places.items w.queues.value i),
      record { lends = tt; value = job-at c.args.number w.ring.opened c.open_at.result.now c.job_mut.result.now c.open_at.ensures.value c.job_mut.ensures.value },
    )
