-- The key is stored as it was made.
use Rattle.std.proofs.Common.{◌∙◌, arith}
use Rattle.mbj_types.specs.Lanes.{lane_at}
use Rattle.mbj_aes.specs.BlockWords.{block_byte}
use Rattle.mbj_aes_lanes.proofs.LaidSchedules.{laid-stored}
use Rattle.mbj_aes_lanes.proofs.narrow.laid_keys.laid_key.Goals as goal

pub returns : goal.returns
returns g c =
    laid-stored g.D.Direction.laid c.args.rounds g.met.D.Direction.same c.args.r (block_byte (lane_at 8) c.laid_key.result 0) c.block_of.result c.block_of.ensures
    ∙ c.laid_key.ensures 0 (omega arith)
    ∙ c.register_of.ensures
