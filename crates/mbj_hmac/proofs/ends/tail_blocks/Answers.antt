use Rattle.std.proofs.Common.{refl}
use Rattle.mbj_hmac.specs.Inside.Layout.{tail_blocks}
use Rattle.mbj_hmac.proofs.ends.tail_blocks.Goals as goal

pub returns : goal.returns
unfolding tail_blocks
returns g c = rw c.block_bytes-block.ensures refl
