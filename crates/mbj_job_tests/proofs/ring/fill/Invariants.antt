-- No cell is open, and there are as many values as turns.
use Rattle.std.proofs.Common.{◌≡◌, [], length}
use Rattle.mbj_job_tests.proofs.ring.fill.Given as goal

abbrev pub invariant-loop-value : goal.invariant-loop-value
invariant-loop-value l = (l.ring.opened ≡ []) × (length l.ring.values ≡ l.value)
