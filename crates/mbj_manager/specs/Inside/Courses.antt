-- The courses in a manager's ring.
use Rattle.std.specs.Prelude.{◌≡◌, ◌≢◌, ℕ, ◌+◌, ◌-◌, ◌%◌, ◌<◌, ◌≤◌, List, [], ◌∷◌, length, map, All, Option, Some, None}
use Rattle.mbj_types.specs.declared.job.Job.{Job}
use Rattle.mbj_stage.specs.CourseState.{CourseState, stage_of, owed}
use Rattle.mbj_stage.specs.declared.stage.Stage.{Stage}
use Rattle.mbj_stage.specs.declared.stage.Stage.TheVariants as stage
use Rattle.mbj_stage.specs.Handing.{without_packet}
use Rattle.mbj_ring.specs.declared.ring.TheConstants.{CELLS}
use Rattle.mbj_ring.specs.Ring.{RingState}
use Rattle.mbj_manager.specs.Machine.Stages.{pending}
use Rattle.mbj_manager.specs.Machine.Course.{in_lanes_next}
use Rattle.mbj_manager.specs.Entries.{HasJobSteps}
use Rattle.mbj_manager.specs.Cells.{Cell, IsGoing, course_in}

abbrev pub courses : RingState Cell → List CourseState
courses r = map course_in r.values

-- what is asked for in a course, whatever is done of it
abbrev pub asked : CourseState → Job
asked c = without_packet c.job

-- the steps left of the course in a cell are the last ones of its job
abbrev pub KeepsSteps : Cell → Type 0
KeepsSteps v = HasJobSteps (course_in v)

-- the number of the job at a place: how many are before it
abbrev pub number : ℕ → ℕ → ℕ
number first place = (CELLS + place - first) % CELLS

abbrev pub ring_number : RingState Cell → ℕ → ℕ
ring_number r = number r.first

-- the committed cells hold courses, at places of the ring
pub record AreCourses (r : RingState Cell) : Type 0 where
  pub going : All IsGoing r.values
  pub steps : All KeepsSteps r.values
  pub few : length r.values ≤ CELLS
  pub first : r.first < CELLS

-- the ring changed in its courses alone
pub record IsSameRing (new old : RingState Cell) : Type 0 where
  pub first : new.first ≡ old.first
  pub opened : new.opened ≡ old.opened
  pub courses : AreCourses new

-- the stage of the earliest course
abbrev pub first_stage : List CourseState → Option Stage
first_stage [] = None
first_stage (c ∷ cs) = Some (stage_of c)

-- c is the course once what finishes at once is done
pub record Follows (c : CourseState) (old : CourseState) : Type 0 where
  pub asked_is : asked c ≡ asked old
  pub steps_are : HasJobSteps old → HasJobSteps c
  pub owed_is : owed c ≡ owed old
  pub pending_is : pending c ≡ in_lanes_next (pending old)
  pub was_here : old.out ≡ None
  pub here : c.out ≡ None
  pub not_now : stage_of c ≢ stage.Now
