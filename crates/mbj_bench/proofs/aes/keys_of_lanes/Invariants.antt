-- Every lane has a schedule of 10 rounds.
use Rattle.std.proofs.Common.{◌≡◌}
use Rattle.mbj_aes_lanes.specs.KeyLanes.{IsFull}
use Rattle.mbj_bench.proofs.aes.keys_of_lanes.Given as goal

abbrev pub invariant-lanes : goal.invariant-lanes
invariant-lanes l = (l.keys.rounds ≡ 10) × IsFull l.keys
