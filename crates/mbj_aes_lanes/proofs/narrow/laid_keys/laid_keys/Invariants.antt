-- The round keys before r are laid out.
use Rattle.std.proofs.Common.{◌≡◌, ℕ, ◌<◌, [], get_or, length, slice_index}
use Rattle.mbj_types.specs.Aes.{round_key}
use Rattle.mbj_aes.specs.declared.sizes.TheConstants.{MAX_ROUND_KEYS}
use Rattle.mbj_aes_lanes.proofs.narrow.laid_keys.laid_keys.Given as goal

abbrev pub invariant-keys : goal.invariant-keys
invariant-keys g l = record {
  length : length l.keys ≡ MAX_ROUND_KEYS;
  each : (k : ℕ) → k < l.r → g.D.Direction.laid l.rounds k (slice_index (get_or l.keys k [])) ≡ round_key l.key k;
}
