-- The first words of a schedule are those of the block.
use Rattle.std.proofs.Common.{◌≡◌, ℕ, List, refl}
use Rattle.sha2.specs.Sha512.{first_words}
use Rattle.mbj_sha_lanes.specs.Words.{words64}

pub first_words_is : (b : List ℕ) → first_words b 16 ≡ words64 b
unfolding first_words
first_words_is b = refl
