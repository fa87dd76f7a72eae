-- What holds of a manager after calls.
use Rattle.std.specs.Prelude.{◌≡◌, ◌≢◌, ◌*◌, List, [], length, IsSome}
use Rattle.mbj_manager.specs.Machine.Between.{IsBetweenCalls}
use Rattle.mbj_manager.specs.Machine.Counts.{RisesUpTo}
use Rattle.mbj_manager.specs.State.{ManagerState, after_flush, new_manager}
use Rattle.mbj_manager.specs.Calls.{Call, after_calls}

pub record IsKept (h : ManagerState) : Type 0 where
  pub machine : IsBetweenCalls h.machine
  -- there is a result owed for each job of the machine
  pub jobs : length h.machine.left ≡ length h.owed
  -- and what is asked for each of them
  pub asked : length h.jobs ≡ length h.owed
  -- a flush gives the earliest job back
  pub flush_gives : h.owed ≢ [] → IsSome (after_flush h).0
  -- and runs lane queues twice for each job at most
  pub flush_runs : RisesUpTo (2 * length h.owed) h.machine.flush_runs (after_flush h).1.machine.flush_runs

abbrev pub AreKept : List Call → Type 0
AreKept calls = IsKept (after_calls calls new_manager)
