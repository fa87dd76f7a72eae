-- Each lane has the schedule.
use Rattle.std.proofs.Common.{ℕ, replicate, Some, ap, ap₂, ◌∙◌}
use Rattle.mbj_types.specs.Aes.{key_schedule}
use Rattle.mbj_types.specs.declared.kind.TheConstants.{AES_LANES}
use Rattle.mbj_aes_lanes.specs.KeyBytes.{key_of_array}
use Rattle.mbj_aes_lanes.specs.Inside.WideKeys.{held_lanes}
use Rattle.mbj_aes_lanes.proofs.WideHeldKeys.{IsKeyArray-same}
use Rattle.mbj_aes_lanes.proofs.wide.lane_keys.LaneKeys.all.Goals as goal

pub round_keys_of-requires-clause-arrays : goal.round_keys_of-requires-clause-arrays
round_keys_of-requires-clause-arrays c =
    IsKeyArray-same c.rounds-rounds.result c.bytes_of_schedule-keys.result (rw c.rounds-rounds.ensures.value c.bytes_of_schedule-keys.ensures.array)

pub returns : goal.returns
unfolding held_lanes
returns c =
    ap₂ (λ n w. record { rounds = n; lanes = replicate AES_LANES (Some w) }) c.rounds-rounds.ensures.value
    (ap (λ (n : ℕ). key_schedule (key_of_array n c.bytes_of_schedule-keys.result)) c.rounds-rounds.ensures.value
    ∙ c.bytes_of_schedule-keys.ensures.schedule)
