-- The blocks of the rows before the next one are written.
use Rattle.std.proofs.Common.{◌≡◌, ℕ, ◌+◌, ◌*◌, ◌<◌, [], get_or}
use Rattle.mbj_types.specs.Lanes.{lane_at}
use Rattle.mbj_types.specs.declared.kind.TheConstants.{AES_LANES}
use Rattle.mbj_aes_lanes.specs.Inside.Matrix.{block_at_row}
use Rattle.mbj_aes_lanes.proofs.blocks.put_blocks.Given as goal

abbrev pub invariant-rows : goal.invariant-rows
invariant-rows l =
    (j h : ℕ) → j < l.k → 16 * h < AES_LANES
    → get_or l.to (16 * h + j) [] ≡ block_at_row (lane_at 8) l.words j h
