-- The rows before the next one are loaded.
use Rattle.std.proofs.Common.{◌≡◌, ℕ, ◌+◌, ◌*◌, ◌<◌}
use Rattle.mbj_types.specs.Lanes.{lane_at}
use Rattle.mbj_types.specs.declared.kind.TheConstants.{AES_LANES}
use Rattle.mbj_aes_lanes.specs.Inside.Matrix.{block_at_row}
use Rattle.mbj_aes_lanes.proofs.blocks.words_of.Given as goal

abbrev pub invariant-rows : goal.invariant-rows
invariant-rows g l =
    (j h : ℕ) → j < l.k → 16 * h < AES_LANES
    → block_at_row (lane_at 8) l.words j h ≡ g.B.LaneBlocks.block_in l.blocks (16 * h + j)
