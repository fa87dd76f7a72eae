-- The status is that of the reason.
use Rattle.std.proofs.Common.{ap, sym}
use Rattle.mbj_stage.specs.CourseState.{status_of}
use Rattle.mbj_stage.proofs.course.status.Goals as goal

pub returns-in-Some : goal.returns-in-Some
returns-in-Some c = ap status_of (sym c.in-Some.is)
