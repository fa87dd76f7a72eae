use Rattle.std.proofs.Common.{◌+◌, ◌*◌}
use Rattle.mbj_aes.specs.BlockWords.{block_byte}
use Rattle.mbj_aes.proofs.BlockWords.{within}
use Rattle.mbj_aes_lanes.proofs.LayoutRounds.{first_key_is}
use Rattle.mbj_aes_lanes.proofs.narrow.laid_keys.first_key.Goals as goal

pub returns : goal.returns
returns g c b h =
    let B = block_byte g.V.Lane8.lane in
    first_key_is (B c.args.key b) (B c.to_tower_byte.result b)
    (λ j k. c.to_tower_byte.ensures (16 * b + j) (within g.V.Lane8.LANES g.V.BlockWord.BLOCKS b j g.met.V.BlockWord.whole h k))
