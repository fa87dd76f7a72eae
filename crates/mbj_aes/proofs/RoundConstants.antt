-- The round constants, computed against their definition.
use Rattle.std.proofs.Common.{◌≡◌, ℕ, ◌<◌, slice_index, refl}
use Rattle.mbj_types.specs.Aes.{times, power}
use Rattle.mbj_aes.specs.declared.expansion.TheConstants.{ROUND_CONSTANTS}
use Rattle.mbj_aes.proofs.ByteCases.{same_at_each}

-- the round constant of index k is that of FIPS 197's index k + 1
pub round_constant_is : (k : ℕ) → k < 10 → slice_index ROUND_CONSTANTS k ≡ power 2 k
unfolding times power
round_constant_is k h = same_at_each (slice_index ROUND_CONSTANTS) (power 2) 10 k refl h
