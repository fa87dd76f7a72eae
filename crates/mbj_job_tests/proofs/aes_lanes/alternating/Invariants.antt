-- Every lane has a schedule of 10 rounds.
use Rattle.std.proofs.Common.{◌≡◌}
use Rattle.mbj_aes_lanes.specs.KeyLanes.{IsFull}
use Rattle.mbj_job_tests.proofs.aes_lanes.alternating.Given as goal

abbrev pub invariant-lanes : goal.invariant-lanes
invariant-lanes l = (l.keys.rounds ≡ 10) × IsFull l.keys
