-- The blocks of the registers before the next one are written.
use Rattle.std.proofs.Common.{◌≡◌, ℕ, ◌+◌, ◌*◌, ◌<◌, [], length, get_or}
use Rattle.mbj_types.specs.Lanes.{lane_at}
use Rattle.mbj_aes.specs.BlockWords.{block_at}
use Rattle.mbj_aes_lanes.specs.declared.few_keys.TheConstants.{FEW_LANES}
use Rattle.mbj_aes_lanes.proofs.few_keys.FewKeysBlocksCipherFEW_LANES.store.Given as goal

abbrev pub invariant-registers : goal.invariant-registers
invariant-registers g l = record {
  size : length l.blocks ≡ FEW_LANES;
  written : (k b : ℕ) → k < l.i → b < 2 → get_or l.blocks (2 * k + b) [] ≡ block_at (lane_at 8) (get_or l.chains k []) b;
}
