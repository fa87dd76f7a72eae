-- The lane has the schedule, and the others are as they were.
use Rattle.std.proofs.Common.{◌≡◌, ℕ, ◌-◌, ◌/◌, length, set, Some, ap, ◌∙◌, arith}
use Rattle.mbj_types.specs.Aes.{key_schedule}
use Rattle.mbj_aes_lanes.specs.KeyBytes.{key_of_array}
use Rattle.mbj_aes_lanes.specs.Inside.WideKeys.{held_lanes}
use Rattle.mbj_aes_lanes.proofs.WideHeldKeys.{held_lanes-put}
use Rattle.mbj_aes_lanes.proofs.wide.lane_keys.LaneKeys.put.Goals as goal

pub returns : goal.returns
returns c =
    let keys = c.self.inside in
    let count : keys.rounds ≡ length c.args.key.now / 16 - 1 = omega (arith, ap (λ k. k.rounds) c.self.view_is, c.requires.rounds) in
    rw (← c.self.view_is)
    (ap (λ lanes. record { rounds = keys.rounds; lanes = lanes })
    (held_lanes-put keys.rounds keys.keys keys.put c.args.lane c.bytes_of_schedule.result
    ∙ ap (λ w. set (held_lanes keys.rounds keys.keys keys.put) c.args.lane (Some w))
    (ap (λ (n : ℕ). key_schedule (key_of_array n c.bytes_of_schedule.result)) count ∙ c.bytes_of_schedule.ensures.schedule)))
