-- What contracts see of a cell.
use Rattle.std.specs.Prelude.{◌≡◌, Bool, true, false, Option, Some, None}
use Rattle.mbj_types.specs.declared.job.Job.{Job}
use Rattle.mbj_types.specs.declared.done.Done.{Done}
use Rattle.mbj_stage.specs.CourseState.{CourseState, begun, owed, stage_of}
use Rattle.mbj_stage.specs.declared.stage.Stage.TheVariants as stage

-- a cell holds a job that is being filled, or the course of one that is submitted
pub data Cell : Type 0 where
  Open : Job → Cell
  Going : CourseState → Cell

-- what the fields of a cell's contents say
abbrev pub cell_by : Bool → Job → CourseState → Cell
cell_by false j c = Open j
cell_by true j c = Going c

-- the job in a cell
abbrev pub job_in : Cell → Job
job_in (Open j) = j
job_in (Going c) = c.job

-- the course in a cell; a job that is being filled has nothing done
abbrev pub course_in : Cell → CourseState
course_in (Open j) = begun j
course_in (Going c) = c

abbrev pub IsOpen : Cell → Type 0
IsOpen (Open j) = Unit {0}
IsOpen (Going c) = ⊥

abbrev pub IsGoing : Cell → Type 0
IsGoing (Open j) = ⊥
IsGoing (Going c) = Unit {0}

-- the cell holds a job that is submitted, and no stage of it is left
abbrev pub IsFinished : Cell → Type 0
IsFinished (Open j) = ⊥
IsFinished (Going c) = stage_of c ≡ stage.Finished

-- the result that a cell has, if one is given back in it
abbrev pub given_by : Bool → Cell → Option Done
given_by false v = None
given_by true v = Some (owed (course_in v))
