-- The schedule has 16 bytes for each of its keys.
use Rattle.std.proofs.Common.{◌≡◌, ℕ, ◌+◌, ◌*◌, length, arith}
use Rattle.mbj_aes_lanes.proofs.LaidSchedules.{length-laid}
use Rattle.mbj_aes_lanes.proofs.narrow.text_key.LaidKeySchedules.rounds.Goals as goal

pub returns-clause-value : goal.returns-clause-value
returns-clause-value g c =
    let n : ℕ = c.self.inside.rounds in
    let size : length c.args.self.now ≡ 16 * (n + 1) = length-laid g.D.Direction.laid n g.met.D.Direction.sized c.self.inside.keys c.args.self.now c.self.view_is in
    omega (arith, size)

pub returns-clause-sizes : goal.returns-clause-sizes
returns-clause-sizes g c i b h k = length-laid g.D.Direction.laid c.self.inside.rounds g.met.D.Direction.sized c.self.inside.keys c.args.self.now c.self.view_is
