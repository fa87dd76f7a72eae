use Rattle.std.proofs.Common.{◌+◌, ◌*◌, bit_xor, ap, ◌∙◌}
use Rattle.mbj_aes.specs.BlockWords.{block_byte}
use Rattle.mbj_aes.proofs.BlockWords.{within}
use Rattle.mbj_aes_lanes.proofs.InverseRounds.{inverse_last_key_is}
use Rattle.mbj_aes_lanes.proofs.narrow.laid_keys.inverse_last_key.Goals as goal

pub returns : goal.returns
returns g c b h =
    let B = block_byte g.V.Lane8.lane in
    inverse_last_key_is (B c.args.key b) (B c.in_decryption.result b) (λ j k.
    let at = within g.V.Lane8.LANES g.V.BlockWord.BLOCKS b j g.met.V.BlockWord.whole h k in
    c.in_decryption.ensures (16 * b + j) at ∙ c.xored.ensures (16 * b + j) at ∙ ap (bit_xor (B c.args.key b j)) (c.splat.ensures (16 * b + j) at))
