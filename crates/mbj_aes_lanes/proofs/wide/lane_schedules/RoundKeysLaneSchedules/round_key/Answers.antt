-- The round key is that of the state.
use Rattle.std.proofs.Common.{◌≡◌, ℕ, ◌+◌, ◌-◌, ◌*◌, ◌/◌, length, arith}
use Rattle.mbj_aes_lanes.proofs.WideKeys.{key_in-laid}
use Rattle.mbj_aes_lanes.proofs.wide.lane_schedules.RoundKeysLaneSchedules.round_key.Goals as goal

pub returns : goal.returns
returns g c i h =
    let words = c.args.self.now.words.now in
    let n : ℕ = length words / 16 - 1 in
    let whole : length words ≡ 16 * (n + 1) = omega (arith, c.args.self.now.whole, c.args.self.now.least) in
    key_in-laid g.V.Lane8.lane words i n whole c.state_at.result c.args.r (omega (arith, c.requires)) (c.state_at.ensures.plain i)
