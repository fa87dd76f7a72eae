-- The contents have the job that is being filled, and its course then.
use Rattle.std.proofs.Common.{◌≡◌, ◌∙◌, Bool, true, false, refl, ap, subst, sym}
use Rattle.std.specs.Prelude.{is_some}
use Rattle.mbj_types.specs.declared.job.Job.{Job}
use Rattle.mbj_stage.specs.CourseState.{CourseState, begun}
use Rattle.mbj_stage.specs.Keys.{counts_expansion}
use Rattle.mbj_manager.specs.Cells as cell
use Rattle.mbj_manager.specs.Cells.{Cell, IsOpen, cell_by, job_in}
use Rattle.mbj_manager.proofs.cell.Cell.begin.Goals as goal

open-job : (b : Bool) (j : Job) (v : CourseState) → IsOpen (cell_by b j v) → job_in (cell_by b j v) ≡ j
open-job false j v is = refl
open-job true j v is = absurd is

going-by : (b : Bool) (j : Job) (v w : CourseState) → b ≡ true → v ≡ w → cell_by b j v ≡ cell.Going w
going-by true j v w is same = ap (λ (x : CourseState). cell.Going x) same
going-by false j v w is same = cc

-- the job that is being filled is that of the contents
job-is : (b : Bool) (j : Job) (v : CourseState) (x : Cell) → cell_by b j v ≡ x → IsOpen x → j ≡ job_in x
job-is b j v x is filling =
    subst (λ (y : Cell). IsOpen y → j ≡ job_in y) is (λ there. sym (open-job b j v there)) filling

pub returns-clause-begun : goal.returns-clause-begun
returns-clause-begun c =
    let was = c.self.inside.contents.value in
    let s = c.begin.new.self in
    let job = ap (λ x. x.course.job) c.deref_mut-contents.ensures.value
    ∙ job-is was.is_going was.course.job was.course c.args.self.now c.self.view_is c.requires.is_open in
    going-by s.is_going s.course.job s.course (begun (job_in c.args.self.now)) c.begin.ensures.going (c.begin.ensures.course ∙ ap begun job)

pub returns-clause-expands : goal.returns-clause-expands
returns-clause-expands c =
    let was = c.self.inside.contents.value in
    let job = ap (λ x. x.course.job) c.deref_mut-contents.ensures.value
    ∙ job-is was.is_going was.course.job was.course c.args.self.now c.self.view_is c.requires.is_open in
    c.begin.ensures.expands ∙ ap (counts_expansion (is_some c.args.found)) job
