use Rattle.std.proofs.Common.{◌∙◌, sym, ap, subst}
use Rattle.mbj_manager.specs.Machine.Stages.{pending}
use Rattle.mbj_manager.specs.Machine.Course.{in_lanes_next}
use Rattle.mbj_stage.specs.CourseState.{CourseState}
use Rattle.mbj_manager.specs.Entries.{HasJobSteps}
use Rattle.mbj_manager.specs.Inside.Courses.{asked}
use Rattle.mbj_manager.proofs.JobSteps.{ran-asked, ran-steps}
use Rattle.mbj_manager.proofs.PendingStages.{ran-next, ran-out}
use Rattle.mbj_manager.proofs.cell.run_nows.Goals as goal

pub stages-preserved : goal.stages-preserved
stages-preserved c =
    let i = c.stages.invariant in
    let now = sym c.in-Now.ensures in
    record {
      asked_is = ap asked c.run_now.ensures.ran ∙ ran-asked c.stages.course ∙ i.asked_is;
      steps_are = λ own. subst HasJobSteps (sym c.run_now.ensures.ran) (ran-steps c.stages.course (i.steps_are own));
      owed_is = c.run_now.ensures.owed ∙ i.owed_is;
      pending_is = ap (λ (v : CourseState). in_lanes_next (pending v)) c.run_now.ensures.ran ∙ ran-next c.stages.course now ∙ i.pending_is;
      here = ap (λ (v : CourseState). v.out) c.run_now.ensures.ran ∙ ran-out c.stages.course ∙ i.here;
    }
