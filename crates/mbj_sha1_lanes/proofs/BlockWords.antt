-- The first words of a schedule are those of the block.
use Rattle.std.proofs.Common.{◌≡◌, ℕ, List, refl}
use Rattle.sha1.specs.Sha1.{first_words}
use Rattle.mbj_sha_lanes.specs.Words.{words32}

pub first_words_is : (b : List ℕ) → first_words b 16 ≡ words32 b
unfolding first_words
first_words_is b = refl
