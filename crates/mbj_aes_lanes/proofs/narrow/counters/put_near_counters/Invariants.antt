-- The counter blocks before the next one are made.
use Rattle.std.proofs.Common.{◌≡◌, ℕ, ◌+◌, ◌*◌, ◌^◌, ◌<◌, [], get_or}
use Rattle.std.specs.Int.{w128, to_be_bytes}
use Rattle.mbj_aes_lanes.proofs.narrow.counters.put_near_counters.Given as goal

abbrev pub invariant-each : goal.invariant-each
invariant-each l =
    (k : ℕ) → k < l.j → get_or l.blocks k [] ≡ to_be_bytes w128 (l.low + k + 2 ^ 64 * l.high)
