-- What holds of the lane machine between two calls.
use Rattle.std.specs.Prelude.{◌≡◌, ◌≢◌, ◌<◌, ◌≤◌, ◌*◌, ◌%◌, ◌==◌, ◌++◌, ℕ, List, [], ◌∷◌, length, count_by, slice_index_or, All, Some, slice_get}
use Rattle.std.specs.Fn.{iterate}
use Rattle.mbj_types.specs.declared.kind.Kind.{Kind}
use Rattle.mbj_types.specs.Kinds.{lanes_of}
use Rattle.mbj_manager.specs.Machine.Stages.{Pending, at_once, in_lanes}
use Rattle.mbj_manager.specs.Machine.Queues.{Machine, WaitingJob, count_end, queue_for}
use Rattle.mbj_manager.specs.declared.lane.Cause.{Cause}
use Rattle.mbj_manager.specs.declared.lane.Cause.TheVariants as cause
use Rattle.mbj_manager.specs.Machine.Course.{course, flush_step, flushed, stepped}

-- how often the job n stands in a lane queue
abbrev pub times_in : ℕ → List WaitingJob → ℕ
times_in n ws = count_by (λ w. w.number == n) ws

-- where the job n stands, by the stages that are left of it: a finished one in no lane queue, another one once in that of the kind of
-- its first stage left, and in no other
abbrev pub IsPlaced : Machine → ℕ → List Pending → Type 0
IsPlaced m n [] = (k : Kind) → times_in n (queue_for k m).waiting ≡ 0
IsPlaced m n (at_once ∷ left) = ⊥
IsPlaced m n (in_lanes k rest ∷ left) =
    (times_in n (queue_for k m).waiting ≡ 1) × ((j : Kind) → j ≢ k → times_in n (queue_for j m).waiting ≡ 0)

-- a stage in lanes takes a round at least
abbrev pub HasRounds : Pending → Type 0
HasRounds at_once = Unit {0}
HasRounds (in_lanes k rest) = 1 ≤ rest

pub record IsBetweenCalls (m : Machine) : Type 0 where
  -- no job stands between two stages
  pub agenda : m.agenda ≡ []
  -- no lane queue is full
  pub few : (k : Kind) → length (queue_for k m).waiting < lanes_of k
  -- each job that waits has rounds left
  pub rests : (k : Kind) → All (λ w. 1 ≤ w.rest) (queue_for k m).waiting
  -- each job is finished, or stands in exactly one lane queue
  pub placed : (n : ℕ) → IsPlaced m n (slice_index_or m.left n [])
  pub stages : All (All HasRounds) m.left
  -- each run that counts was on a full lane queue
  pub blocks : (k : Kind) → (queue_for k m).blocks ≡ (lanes_of k * (queue_for k m).rounds) % count_end

-- the machine to which a job with these stages is submitted
abbrev pub with_stages : List Pending → Machine → Machine
with_stages stages m = record m { left = m.left ++ stages ∷ []; agenda = length m.left ∷ [] }

-- the earliest job is finished
abbrev pub IsFirstFinished : Machine → Type 0
IsFirstFinished m = slice_get m.left 0 ≡ Some []

-- what the course of a submission and a flush make of a machine between two calls, whatever waits in it: the course ends with
-- nothing in the agenda, and a flush ends with the earliest job finished
pub record KeepsMachines (m : Machine) : Type 0 where
  pub submits : (stages : List Pending) → All HasRounds stages → IsBetweenCalls (course cause.Submit (with_stages stages m))
  pub flushes : IsBetweenCalls (flushed m)
  pub earliest : m.left ≢ [] → IsFirstFinished (flushed m)

-- By which number a course and a flush iterate doesn't matter: every number of steps after which the agenda is empty gives the
-- same machine, and so does every number of flush steps after which the earliest job is finished.
pub record StepsEndAlike (m : Machine) : Type 0 where
  pub course : (at : Cause) (a b : ℕ) → (iterate (stepped at) a m).agenda ≡ [] → (iterate (stepped at) b m).agenda ≡ []
      → iterate (stepped at) a m ≡ iterate (stepped at) b m
  pub flush : (a b : ℕ) → IsFirstFinished (iterate flush_step a m) → IsFirstFinished (iterate flush_step b m)
      → iterate flush_step a m ≡ iterate flush_step b m
