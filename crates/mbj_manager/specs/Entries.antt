-- The entries in a manager's lanes: of which jobs they are, and where they lead.
use Rattle.std.specs.Prelude.{◌≡◌, List, [], ◌∷◌, ◌++◌, Some, slice_get}
use Rattle.mbj_types.specs.declared.kind.Kind.{Kind}
use Rattle.mbj_stage.specs.declared.stage.Step.{Step}
use Rattle.mbj_stage.specs.Steps.{steps_of}
use Rattle.mbj_stage.specs.CourseState.{CourseState}
use Rattle.mbj_stage.specs.Handing.{End, IsOut, owed_with, taken_back, without_packet}
use Rattle.mbj_manager.specs.Machine.Stages.{pending}
use Rattle.mbj_manager.specs.Machine.Queues.{WaitingJob}
use Rattle.mbj_manager.specs.State.{ManagerState}

-- the steps that are left of a course are its job's last ones
pub record HasJobSteps (c : CourseState) : Type 0 where
  pub before : List Step
  pub are : before ++ c.left ≡ steps_of c.job

-- an entry that ends as e is that of the job w, which waits in the lanes of the kind k
pub record IsEntryOf (k : Kind) (h : ManagerState) (e : End) (w : WaitingJob) : Type 0 where
  -- the job's course, which has the entry out
  pub course : CourseState
  pub out : IsOut k e course
  -- it is the job's own: once the entry is back it has the job's cipher, authentication, keys, IV, data and ranges
  pub job : slice_get h.jobs w.number ≡ Some (without_packet (taken_back e course).job)
  -- and does the job's steps
  pub steps : HasJobSteps course
  -- it has the stages left that the machine has for the job
  pub left : slice_get h.machine.left w.number ≡ Some (pending course)
  -- and with this end it owes the result that the job is owed
  pub owed : slice_get h.owed w.number ≡ Some (owed_with e course)

-- the entries that end so are those of the jobs that wait: as many, and in the same order
abbrev pub AreEntriesOf : Kind → ManagerState → List End → List WaitingJob → Type 0
AreEntriesOf k h [] [] = Unit {0}
AreEntriesOf k h (e ∷ es) (w ∷ ws) = IsEntryOf k h e w × AreEntriesOf k h es ws
AreEntriesOf k h _ _ = ⊥
