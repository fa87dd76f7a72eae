-- Every lane has a schedule, of as many rounds.
use Rattle.std.proofs.Common.{◌≡◌, ◌+◌, ◌/◌}
use Rattle.mbj_aes_lanes.specs.KeyLanes.{IsFull}
use Rattle.mbj_job_tests.proofs.own_keys.own_keys.Given as goal

abbrev pub invariant-lanes : goal.invariant-lanes
invariant-lanes l = (l.keys.rounds ≡ l.key_bytes / 4 + 6) × IsFull l.keys
