-- The counter blocks before the next one are made.
use Rattle.std.proofs.Common.{◌≡◌, ℕ, ◌+◌, ◌<◌, [], get_or}
use Rattle.mbj_gcm.specs.Incremented.{incremented}
use Rattle.mbj_gcm.proofs.counter.put_counters_after.Given as goal

abbrev pub invariant-each : goal.invariant-each
invariant-each l = (k : ℕ) → k < l.j → get_or l.blocks k [] ≡ incremented l.counter (k + 1)
