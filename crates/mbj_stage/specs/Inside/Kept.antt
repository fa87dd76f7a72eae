-- What the fields of a course keep.
use Rattle.std.specs.Prelude.{◌≡◌, ◌≢◌, ℕ, Bool, true, false, List, [], ◌∷◌, length, Option, Some, None, IsSomeAnd, is_some}
use Rattle.std.specs.List.{All}
use Rattle.mbj_types.specs.Auths.{class_of}
use Rattle.mbj_types.specs.Verdict.{verdict_at}
use Rattle.mbj_types.specs.declared.job.Job.{Job}
use Rattle.mbj_types.specs.declared.job.Cipher.TheVariants as cipher
use Rattle.mbj_types.specs.declared.reason.Reason.{Reason}
use Rattle.mbj_keys.specs.Schedules.{IsScheduleOf}
use Rattle.mbj_stage.specs.declared.lengths.Lengths.{Lengths}
use Rattle.mbj_stage.specs.declared.stage.Stage.TheVariants as stage
use Rattle.mbj_stage.specs.declared.stage.Step.{Step}
use Rattle.mbj_stage.specs.declared.stage.Step.TheVariants as step
use Rattle.mbj_stage.specs.Steps.{auth_steps, cipher_steps, stage_at}
use Rattle.mbj_stage.specs.CourseState.{lengths_of, sized}
use Rattle.mbj_stage.specs.Keys.{needs_schedule, keeps_schedule}

-- the step is one of the job's
abbrev pub IsStepOf : Job → Step → Type 0
IsStepOf j step.Cipher = cipher_steps j.cipher ≡ step.Cipher ∷ []
IsStepOf j step.Auth = auth_steps (class_of j.auth) ≡ step.Auth ∷ []
IsStepOf j step.Gcm = cipher_steps j.cipher ≡ step.Gcm ∷ []
IsStepOf j step.CcmMac = j.cipher ≡ cipher.Ccm
IsStepOf j step.CcmText = j.cipher ≡ cipher.Ccm
IsStepOf j step.Gmac = auth_steps (class_of j.auth) ≡ step.Gmac ∷ []

-- the step is the first of those that are left
abbrev pub IsNextStep : Step → List Step → Type 0
IsNextStep s [] = ⊥
IsNextStep s (t ∷ left) = t ≡ s

-- the length of the packet p, or of the one that is out
abbrev pub packet_length : Option ℕ → List ℕ → ℕ
packet_length None p = length p
packet_length (Some n) p = n

-- whether IV and data are in the course: they are unless an entry of CCM's MAC is out
abbrev pub has_texts : Option ℕ → List Step → Bool
has_texts (Some m) (step.CcmMac ∷ left) = false
has_texts out left = true

-- each step left is one of the job's, a packet is out only while the first of them is done in lanes, and where a step is left no row of
-- the argument table applies and n has the lengths of IV and data
pub record IsSound (j : Job) (left : List Step) (out : Option ℕ) (n : Lengths) : Type 0 where
  pub accepted : left ≢ [] → verdict_at (sized n j) (packet_length out j.packet) ≡ None
  pub own : All (IsStepOf j) left
  pub here : stage_at j left ≡ stage.Now → out ≡ None
  pub lengths : left ≢ [] → has_texts out left ≡ true → n ≡ lengths_of j

-- the schedule of a job's key is at hand
abbrev pub HasSchedule : Job → Option (List ℕ) → Type 0
HasSchedule j schedule = IsSomeAnd schedule (IsScheduleOf j.key)

-- if a step is left of a job that needs the schedule of its key, the schedule is at hand
abbrev pub IsKeyed : Job → List Step → Option (List ℕ) → Type 0
IsKeyed j left schedule = left ≢ [] → needs_schedule j.cipher j.dir ≡ true → HasSchedule j schedule

-- all that the fields keep: there is a schedule exactly where the job needs one, which is refused for this reason or for none
pub record IsKept (j : Job) (reason : Option Reason) (left : List Step) (out : Option ℕ) (n : Lengths) (schedule : Option (List ℕ)) : Type 0 where
  pub sound : IsSound j left out n
  pub keyed : IsKeyed j left schedule
  pub wanted : is_some schedule ≡ keeps_schedule reason j.cipher j.dir
