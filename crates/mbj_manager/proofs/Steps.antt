-- So many steps of a course, and of a flush.
use Rattle.std.proofs.Common.{ℕ, slice_get}
use Rattle.std.specs.Fn.{iterate}
use Rattle.mbj_manager.specs.Machine.Queues.{Machine}
use Rattle.mbj_manager.specs.declared.lane.Cause.{Cause}
use Rattle.mbj_manager.specs.Machine.Course.{flush_step_at, stepped}

abbrev pub after_steps : Cause → ℕ → Machine → Machine
after_steps at steps m = iterate (stepped at) steps m

abbrev pub after_flush_steps : ℕ → Machine → Machine
after_flush_steps steps m = iterate (λ (m : Machine). flush_step_at (slice_get m.left 0) m) steps m
