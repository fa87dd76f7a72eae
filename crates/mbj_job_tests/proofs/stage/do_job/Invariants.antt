-- What the course owes stays the job's result, and a stage less is left after each turn.
use Rattle.std.proofs.Common.{◌≡◌, None, length}
use Rattle.mbj_types.specs.Result.{result_of}
use Rattle.mbj_stage.specs.CourseState.{owed}
use Rattle.mbj_job_tests.proofs.stage.do_job.Given as goal

abbrev pub invariant-stages : goal.invariant-stages
invariant-stages l = record { owes : owed l.course ≡ result_of l.fn.job; here : l.course.out ≡ None }

abbrev pub decreases-stages : goal.decreases-stages
decreases-stages l = length l.course.left
