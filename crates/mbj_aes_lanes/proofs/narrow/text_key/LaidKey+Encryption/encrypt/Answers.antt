-- Blocks stay blocks.
use Rattle.std.proofs.Common.{◌≡◌, ℕ, ◌+◌, ◌*◌, List, [], get_or, length, ap, ◌∙◌, arith}
use Rattle.mbj_aes.proofs.Rounds.{length-encipher}
use Rattle.mbj_aes_lanes.specs.Inside.LaidKeys.{laid_key}
use Rattle.mbj_aes_lanes.specs.Inside.LaidLaws.{length-laid_key}
use Rattle.mbj_aes_lanes.proofs.LaidSchedules.{length-laid}
use Rattle.mbj_aes_lanes.proofs.narrow.text_key.LaidKey+Encryption.encrypt.Goals as goal

pub returns-clause-lengths : goal.returns-clause-lengths
returns-clause-lengths c i h =
    let w : List ℕ = c.args.self.now in
    let n : ℕ = c.self.inside.rounds in
    let size : length w ≡ 16 * (n + 1) = length-laid laid_key n length-laid_key c.self.inside.keys w c.self.view_is in
    ap length (c.change_each.ensures i h) ∙ length-encipher w (get_or c.args.blocks.now i []) (omega (arith, size))
