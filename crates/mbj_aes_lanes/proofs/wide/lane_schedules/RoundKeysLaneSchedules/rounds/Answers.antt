-- A schedule has 16 bytes for each of its round keys.
use Rattle.std.proofs.Common.{◌≡◌, ℕ, ◌+◌, ◌-◌, ◌*◌, ◌/◌, length, arith}
use Rattle.mbj_aes_lanes.proofs.WideKeys.{length-schedule_in}
use Rattle.mbj_aes_lanes.proofs.wide.lane_schedules.RoundKeysLaneSchedules.rounds.Goals as goal

pub returns-clause-sizes : goal.returns-clause-sizes
returns-clause-sizes g c i h =
    let words = c.args.self.now.words.now in
    let n : ℕ = length words / 16 - 1 in
    let whole : length words ≡ 16 * (n + 1) = omega (arith, c.args.self.now.whole, c.args.self.now.least) in
    length-schedule_in g.V.Lane8.lane words i n whole
