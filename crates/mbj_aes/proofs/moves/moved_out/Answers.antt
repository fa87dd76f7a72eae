use Rattle.std.proofs.Common.{◌+◌, ◌*◌}
use Rattle.mbj_aes.specs.BlockWords.{block_byte}
use Rattle.mbj_aes.proofs.BlockWords.{within}
use Rattle.mbj_aes.proofs.MovedBytes.{out_index, out_byte}
use Rattle.mbj_aes.proofs.moves.moved_out.Goals as goal

pub taken-requires : goal.taken-requires
taken-requires g c b j h k =
    let here = within g.W.Lane8.LANES g.W.BlockWord.BLOCKS b j g.met.W.BlockWord.whole h k in
    rw (c.anded.ensures (16 * b + j) here, c.places_from-places.ensures b j h k, c.splat.ensures (16 * b + j) here) (out_index c.args.by j c.requires k)

pub returns : goal.returns
returns g c b j h k =
    let here = within g.W.Lane8.LANES g.W.BlockWord.BLOCKS b j g.met.W.BlockWord.whole h k in
    rw (c.taken.ensures b j h k, c.anded.ensures (16 * b + j) here, c.places_from-places.ensures b j h k, c.splat.ensures (16 * b + j) here)
    (out_byte c.args.by j (block_byte g.W.Lane8.lane c.args.x b) c.requires k)
