-- How many steps a course has ahead.
use Rattle.std.specs.Prelude.{ℕ, ◌+◌, ◌*◌, length}
use Rattle.mbj_manager.specs.Machine.Queues.{Machine}
use Rattle.mbj_manager.specs.Machine.Course.{stages_left}

-- each step lowers this number, so that as many steps empty the agenda
abbrev pub steps_ahead : Machine → ℕ
steps_ahead m = 2 * stages_left m.left + length m.agenda
