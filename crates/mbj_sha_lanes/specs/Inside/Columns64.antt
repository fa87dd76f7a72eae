-- The words of four blocks of 128 bytes side by side.
use Rattle.std.specs.Prelude.{ℕ, ◌+◌, List, [], ◌∷◌, ◌++◌, map}
use Rattle.std.specs.Simd.Lanes.{pick_l}
use Rattle.sha2.specs.Sha512.{word_at}

-- two words of a block from byte i on
abbrev pub couple : List ℕ → ℕ → List ℕ
couple b i = word_at b (i + 0) ∷ word_at b (i + 8) ∷ []

-- the word at byte i of each block
abbrev pub column : List (List ℕ) → ℕ → List ℕ
column bs i = map (λ b. word_at b i) bs

-- two of them
abbrev pub columns : List (List ℕ) → ℕ → List (List ℕ)
columns bs i = column bs (i + 0) ∷ column bs (i + 8) ∷ []

-- the words of two vectors, each with two words of two blocks, by word
abbrev pub transposed : List ℕ → List ℕ → List (List ℕ)
transposed a b = pick_l 0 (a ++ b) (0 ∷ 4 ∷ 2 ∷ 6 ∷ []) ∷ pick_l 0 (a ++ b) (1 ∷ 5 ∷ 3 ∷ 7 ∷ []) ∷ []
