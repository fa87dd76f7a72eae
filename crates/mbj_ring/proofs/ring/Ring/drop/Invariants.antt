-- No cell is open, and each turn takes a value out.
use Rattle.std.proofs.Common.{◌≡◌, length, []}
use Rattle.mbj_ring.proofs.ring.Ring.drop.Given as goal

abbrev pub invariant-loop-value : goal.invariant-loop-value
invariant-loop-value g l = l.self.opened ≡ []

abbrev pub decreases-loop-value : goal.decreases-loop-value
decreases-loop-value g l = length l.self.values
