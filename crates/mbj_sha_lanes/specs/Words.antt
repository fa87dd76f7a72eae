-- The 16 words of a block (FIPS 180-4, 5.2), the highest byte of each first.
use Rattle.std.specs.Prelude.{ℕ, List, [], ◌∷◌, map}
use Rattle.sha2.specs.Sha256 as Sha256
use Rattle.sha2.specs.Sha512 as Sha512

-- where they begin, with words of 32 and of 64 bits
abbrev pub places32 : List ℕ
places32 = 0 ∷ 4 ∷ 8 ∷ 12 ∷ 16 ∷ 20 ∷ 24 ∷ 28 ∷ 32 ∷ 36 ∷ 40 ∷ 44 ∷ 48 ∷ 52 ∷ 56 ∷ 60 ∷ []

abbrev pub places64 : List ℕ
places64 = 0 ∷ 8 ∷ 16 ∷ 24 ∷ 32 ∷ 40 ∷ 48 ∷ 56 ∷ 64 ∷ 72 ∷ 80 ∷ 88 ∷ 96 ∷ 104 ∷ 112 ∷ 120 ∷ []

abbrev pub words32 : List ℕ → List ℕ
words32 b = map (Sha256.word_at b) places32

abbrev pub words64 : List ℕ → List ℕ
words64 b = map (Sha512.word_at b) places64
