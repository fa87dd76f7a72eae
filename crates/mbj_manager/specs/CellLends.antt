-- What a cell ends as, once a `&mut` into it has ended.
use Rattle.std.specs.Borrow.{Fml, Lends, MutBor}
use Rattle.mbj_types.specs.declared.job.Job.{Job}
use Rattle.mbj_types.specs.contracts.job.Job.{the_row as job_row}
use Rattle.mbj_stage.specs.CourseState.{CourseState}
use Rattle.mbj_stage.specs.contracts.course.Course.{the_row as course_row}
use Rattle.mbj_manager.specs.Cells.{Cell, Open, Going}
use Rattle.mbj_manager.specs.contracts.cell.Cell.{the_row}

-- the cell holds the job that was last written through r
abbrev pub LendsJobIn : MutBor Cell → MutBor Job → Fml
LendsJobIn c r = Lends the_row job_row c r (λ j. Open j)

-- the cell holds the course that was last written through r
abbrev pub LendsCourseIn : MutBor Cell → MutBor CourseState → Fml
LendsCourseIn c r = Lends the_row course_row c r (λ v. Going v)
