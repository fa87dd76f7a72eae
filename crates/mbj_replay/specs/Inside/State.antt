-- What the fields of a replay stand for, and what holds of them between two commands.
use Rattle.std.specs.Prelude.{◌≡◌, ◌+◌, ◌*◌, ◌%◌, ◌<◌, ◌≤◌, ℕ, List, ◌∷◌, length, map, slice_get, Option, Some, option_map, option_to_list}
use Rattle.mbj_types.specs.declared.job.Job.{Job}
use Rattle.mbj_types.specs.declared.done.Done.{Done}
use Rattle.mbj_core.specs.Cells.{Cell, ready}
use Rattle.mbj_core.specs.Parties.{FrontState}
use Rattle.mbj_core.specs.Stands.{StandsFor}
use Rattle.mbj_core.specs.declared.cells.TheConstants.{SUBMITTER_CELLS}
use Rattle.mbj_replay.specs.Replay.{Replaying}
use Rattle.mbj_replay.specs.declared.replayer.Posted.{Posted}
use Rattle.mbj_replay.specs.declared.replayer.Replayer.{Replayer}
use Rattle.mbj_replay.specs.declared.replayer.Unposted.{Unposted}
use Rattle.mbj_replay.specs.declared.line.ReplayLine.{ReplayLine}
use Rattle.mbj_replay.specs.declared.worker.Worker.{Worker}

abbrev pub state_of : Replayer → Replaying
state_of r = record {
  core = r.core;
  managers = map (λ x. x.manager) r.workers.items;
  nexts = r.nexts.items;
  numbers = map (λ x. x.number) r.posted.items;
}

abbrev pub lines_of : ReplayLine × Option ReplayLine → List ReplayLine
lines_of told = told.0 ∷ option_to_list told.1

-- the worker has the cells of these entries in its hand, and its manager owes their results, in the same order
pub record Holds (x : Worker) (hand : List (ℕ × Done)) : Type 0 where
  pub cells : x.hand.items ≡ map (λ e. e.0) hand
  pub owed : x.manager.owed ≡ map (λ e. e.1) hand

-- each worker holds its hand in f; before the workers, this many submitters are parties
abbrev pub EachHolds : ℕ → List Worker → FrontState Job Done → Type 0
EachHolds submitters workers f =
    (w : ℕ) (x : Worker) → slice_get workers w ≡ Some x → Holds x (f.seats (submitters + w)).hand

-- what is kept of a job that is not posted: the job and its copy
abbrev pub with_copy : Job → Option Unposted
with_copy job = Some (record { job = job; copy = job })

-- what is kept of the jobs that are not posted, and of those that are posted and not claimed, if the cells of the
-- front are these
pub record HasStock (jobs : List Job) (submitters : ℕ) (nexts : List ℕ) (unposted : List (Option Unposted)) (posted : List Posted) (cells : ℕ → Cell Job Done) : Type 0 where
  -- the next job of a submitter is one of its own
  pub next_count : length nexts ≡ submitters
  pub each_next : (s n : ℕ) → slice_get nexts s ≡ Some n → (n % submitters ≡ s) × (n < length jobs + submitters)
  -- from it on, the submitter's jobs and their copies are as in the file
  pub job_count : length unposted ≡ length jobs
  pub each_left : (s n m : ℕ) → slice_get nexts s ≡ Some n → n ≤ m → m % submitters ≡ s
      → slice_get unposted m ≡ option_map with_copy (slice_get jobs m)
  -- there is a copy of each job that is posted and that no party has claimed
  pub cell_count : length posted ≡ SUBMITTER_CELLS * submitters
  pub each_ready : (c : ℕ) (job : Job) (x : Posted) → slice_get posted c ≡ Some x → cells c ≡ ready job → x.copy ≡ Some job

-- the replay's core stands for f, in which each worker holds its hand
pub record Follows (jobs : List Job) (r : Replayer) (f : FrontState Job Done) : Type 0 where
  pub front : StandsFor r.core f
  pub worker_count : length r.workers.items ≡ r.core.workers
  pub workers : EachHolds r.core.submitters r.workers.items f
  pub stock : HasStock jobs r.core.submitters r.nexts.items r.unposted.items r.posted.items f.cells

abbrev pub IsPlaying : List Job → Replayer → Type 0
IsPlaying jobs r = (f : FrontState Job Done) × Follows jobs r f

-- there are as many submitters and workers as before
pub record HasPartiesOf (old new : Replayer) : Type 0 where
  pub submitters : new.core.submitters ≡ old.core.submitters
  pub workers : new.core.workers ≡ old.core.workers
