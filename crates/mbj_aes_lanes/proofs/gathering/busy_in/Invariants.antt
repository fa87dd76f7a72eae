-- At most each slot before the next one has an entry.
use Rattle.std.proofs.Common.{◌≤◌}
use Rattle.mbj_aes_lanes.proofs.gathering.busy_in.Given as goal

abbrev pub invariant-busy : goal.invariant-busy
invariant-busy g l = l.many ≤ l.i
