-- What is owed, what is asked for and what is in lanes stays, and a stage less is left after each turn.
use Rattle.std.proofs.Common.{◌≡◌, None, length}
use Rattle.mbj_stage.specs.CourseState.{owed}
use Rattle.mbj_manager.specs.Machine.Stages.{pending}
use Rattle.mbj_manager.specs.Machine.Course.{in_lanes_next}
use Rattle.mbj_manager.specs.Entries.{HasJobSteps}
use Rattle.mbj_manager.specs.Inside.Courses.{asked}
use Rattle.mbj_manager.proofs.cell.run_nows.Given as goal

abbrev pub invariant-stages : goal.invariant-stages
invariant-stages l = record {
  asked_is : asked l.course ≡ asked l.initial.course;
  steps_are : HasJobSteps l.initial.course → HasJobSteps l.course;
  owed_is : owed l.course ≡ owed l.initial.course;
  pending_is : in_lanes_next (pending l.course) ≡ in_lanes_next (pending l.initial.course);
  here : l.course.out ≡ None;
}

abbrev pub decreases-stages : goal.decreases-stages
decreases-stages l = length l.course.left
