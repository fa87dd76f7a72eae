-- What a manager keeps between two calls.
use Rattle.std.specs.Prelude.{◌≡◌, ℕ, ◌≤◌, length}
use Rattle.mbj_manager.specs.Machine.Between.{IsBetweenCalls}
use Rattle.mbj_manager.specs.State.{ManagerState}
use Rattle.mbj_manager.specs.Inside.Standing.{left_at}

pub record IsSettled (h : ManagerState) : Type 0 where
  pub machine : IsBetweenCalls h.machine
  -- there is a job for each result owed
  pub jobs : length h.machine.left ≡ length h.owed
  -- and what is asked for it
  pub asked : length h.jobs ≡ length h.owed
  -- no job has more than two stages left
  pub two : (n : ℕ) → length (left_at n h.machine.left) ≤ 2
