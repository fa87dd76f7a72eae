-- No cell is open, and one value waits.
use Rattle.std.proofs.Common.{◌≡◌, ◌<◌, [], length}
use Rattle.mbj_ring.specs.declared.ring.TheConstants.{CELLS}
use Rattle.mbj_job_tests.proofs.ring.places_wrap_round_the_end.Given as goal

abbrev pub invariant-loop-value : goal.invariant-loop-value
invariant-loop-value g l = (l.ring.opened ≡ []) × (length l.ring.values ≡ 1) × (l.ring.first < CELLS)
