-- The key as it stands in the schedule.
use Rattle.std.proofs.Common.{◌≡◌, ℕ, ◌-◌, ap, ◌∙◌, arith}
use Rattle.mbj_types.specs.Blocks.{xor_lists}
use Rattle.mbj_aes_lanes.specs.Inside.Wide.{state_lane}
use Rattle.mbj_aes_lanes.specs.Inside.WideKeys.{key_in}
use Rattle.mbj_aes_lanes.proofs.wide.decryption.add_key.Goals as goal

pub returns : goal.returns
returns g c i h =
    let lane = g.V.Lane8.lane in
    let rounds : c.rounds.result ≡ g.K.LaneSchedules.count_of c.args.keys.now - 1 = omega (arith, c.rounds.ensures.value) in
    c.add_round_key.ensures i h
    ∙ ap (xor_lists (state_lane lane c.args.s i))
    (c.plain_key.ensures i h
    ∙ ap (λ (n : ℕ). key_in lane n c.args.r c.round_key.result i) rounds
    ∙ c.round_key.ensures i h)
