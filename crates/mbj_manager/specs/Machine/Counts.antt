-- Which counts a run of a lane queue goes into.
use Rattle.std.specs.Prelude.{◌≡◌, ℕ, ◌+◌, ◌%◌, ◌≤◌}
use Rattle.mbj_types.specs.declared.kind.Kind.{Kind}
use Rattle.mbj_manager.specs.Machine.Queues.{Machine, count_end, queue_for}
use Rattle.mbj_manager.specs.declared.lane.Cause.TheVariants as cause
use Rattle.mbj_manager.specs.Machine.Course.{course, flushed}

-- the rounds of a kind's full runs, and their blocks
abbrev pub full_runs : Kind → Machine → ℕ × ℕ
full_runs k m = ((queue_for k m).rounds, (queue_for k m).blocks)

-- a run goes into the count of the call that it is within, and into no other
pub record CountsApart (m : Machine) : Type 0 where
  -- a lane queue that fills as a submitted job goes on is no run of a flush
  pub submitting : (course cause.Submit m).flush_runs ≡ m.flush_runs
  -- a lane queue that fills as jobs go on within a flush is no full run
  pub flushing : (k : Kind) → full_runs k (flushed m) ≡ full_runs k m

-- a count, which is kept modulo its end, rises by this many at most
pub record RisesUpTo (most old new : ℕ) : Type 0 where
  pub by : ℕ
  pub few : by ≤ most
  pub is : new % count_end ≡ (old + by) % count_end
