-- The registers before the next one have their blocks.
use Rattle.std.proofs.Common.{◌≡◌, ℕ, ◌+◌, ◌*◌, ◌<◌}
use Rattle.mbj_types.specs.Lanes.{lane_at}
use Rattle.mbj_aes.specs.BlockWords.{block_at}
use Rattle.mbj_aes_lanes.proofs.EachRegister.{AreDone}
use Rattle.mbj_aes_lanes.proofs.few_keys.FewKeysBlocksCipherFEW_LANES.load.Given as goal

abbrev pub invariant-registers : goal.invariant-registers
invariant-registers g l =
    AreDone (λ k old new. (b : ℕ) → b < 2 → block_at (lane_at 8) new b ≡ g.B.LaneBlocks.block_in l.blocks (2 * k + b)) l.initial.chains l.chains l.i
