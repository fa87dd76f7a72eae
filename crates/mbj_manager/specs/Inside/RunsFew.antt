-- How many runs there are within a flush.
use Rattle.std.specs.Prelude.{◌≡◌, ℕ, ◌+◌, ◌%◌, ◌≤◌}
use Rattle.mbj_manager.specs.Machine.Queues.{Machine, count_end}
use Rattle.mbj_manager.specs.Machine.Course.{stages_left}

-- after is the machine m after this many runs within a flush, each of which ended a stage
pub record RunsFew (after m : Machine) : Type 0 where
  pub count : ℕ
  pub few : count + stages_left after.left ≤ stages_left m.left
  pub is : after.flush_runs % count_end ≡ (m.flush_runs + count) % count_end
