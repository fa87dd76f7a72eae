-- What a course ends as, once a `&mut` into it has ended.
use Rattle.std.specs.Borrow.{Fml, Lends, MutBor}
use Rattle.mbj_types.specs.declared.job.Job.{Job}
use Rattle.mbj_types.specs.contracts.job.Job.{the_row as job_row}
use Rattle.mbj_stage.specs.CourseState.{CourseState}
use Rattle.mbj_stage.specs.contracts.course.Course.{the_row}

-- the course has the job that was last written through r
abbrev pub LendsJob : MutBor CourseState → MutBor Job → Fml
LendsJob c r = Lends the_row job_row c r (λ j. record c.now { job = j })
