-- Four shuffles exchange the four bits of the row and those of the place within it.
use Rattle.mbj_types.specs.Lanes.{lane_at}
use Rattle.mbj_types.specs.declared.kind.TheConstants.{AES_LANES}
use Rattle.mbj_aes_lanes.proofs.ByteMatrices.{four_shuffles}
use Rattle.mbj_aes_lanes.proofs.blocks.transpose.Goals as goal

pub returns : goal.returns
returns c =
    four_shuffles (lane_at 8) AES_LANES c.args.rows.now c.shuffle.new.rows c.shuffle-2.new.rows c.shuffle-3.new.rows
    c.shuffle-4.new.rows c.shuffle.ensures c.shuffle-2.ensures c.shuffle-3.ensures c.shuffle-4.ensures
