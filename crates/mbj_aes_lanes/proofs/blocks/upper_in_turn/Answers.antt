-- Each half comes from both words in turn.
use Rattle.std.proofs.Common.{refl, arith}
use Rattle.mbj_aes_lanes.proofs.ByteMatrices.{row_in_turn}
use Rattle.mbj_aes_lanes.proofs.blocks.upper_in_turn.Goals as goal

pub returns : goal.returns
returns c g k hg hk =
    row_in_turn 32 8 c.args.one c.args.other _ c.fits-one.0 refl (omega arith) refl g k _ hg hk (omega arith)
