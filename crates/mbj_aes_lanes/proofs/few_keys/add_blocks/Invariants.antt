-- The registers before the next one have their sums.
use Rattle.std.proofs.Common.{◌≡◌, ℕ, ◌+◌, ◌*◌, ◌<◌}
use Rattle.mbj_types.specs.Blocks.{xor_lists}
use Rattle.mbj_types.specs.Lanes.{lane_at}
use Rattle.mbj_aes.specs.BlockWords.{block_at}
use Rattle.mbj_aes_lanes.proofs.EachRegister.{AreDone}
use Rattle.mbj_aes_lanes.proofs.few_keys.add_blocks.Given as goal

abbrev pub invariant-registers : goal.invariant-registers
invariant-registers g l =
    AreDone (λ k old new. (b : ℕ) → b < 2
    → block_at (lane_at 8) new b ≡ xor_lists (g.B.LaneBlocks.block_in l.blocks (2 * k + b)) (block_at (lane_at 8) old b)) l.fn.registers l.registers l.i
