-- The words of eight blocks side by side.
use Rattle.std.specs.Prelude.{ℕ, ◌+◌, List, [], ◌∷◌, ◌++◌, map}
use Rattle.std.specs.Simd.Lanes.{pick_l}
use Rattle.sha2.specs.Sha256.{word_at}

-- four words of a block from byte i on
abbrev pub quad : List ℕ → ℕ → List ℕ
quad b i = word_at b (i + 0) ∷ word_at b (i + 4) ∷ word_at b (i + 8) ∷ word_at b (i + 12) ∷ []

-- the word at byte i of each block
abbrev pub column : List (List ℕ) → ℕ → List ℕ
column bs i = map (λ b. word_at b i) bs

-- four of them
abbrev pub columns : List (List ℕ) → ℕ → List (List ℕ)
columns bs i = column bs (i + 0) ∷ column bs (i + 4) ∷ column bs (i + 8) ∷ column bs (i + 12) ∷ []

-- the words of four vectors, each with four words of two blocks, by word
abbrev pub transposed : List ℕ → List ℕ → List ℕ → List ℕ → List (List ℕ)
transposed a b c d =
    let low : List ℕ = pick_l 0 (a ++ b) (0 ∷ 8 ∷ 1 ∷ 9 ∷ 4 ∷ 12 ∷ 5 ∷ 13 ∷ []) in
    let low_on : List ℕ = pick_l 0 (c ++ d) (0 ∷ 8 ∷ 1 ∷ 9 ∷ 4 ∷ 12 ∷ 5 ∷ 13 ∷ []) in
    let high : List ℕ = pick_l 0 (a ++ b) (2 ∷ 10 ∷ 3 ∷ 11 ∷ 6 ∷ 14 ∷ 7 ∷ 15 ∷ []) in
    let high_on : List ℕ = pick_l 0 (c ++ d) (2 ∷ 10 ∷ 3 ∷ 11 ∷ 6 ∷ 14 ∷ 7 ∷ 15 ∷ []) in
    pick_l 0 (low ++ low_on) (0 ∷ 1 ∷ 8 ∷ 9 ∷ 4 ∷ 5 ∷ 12 ∷ 13 ∷ [])
    ∷ pick_l 0 (low ++ low_on) (2 ∷ 3 ∷ 10 ∷ 11 ∷ 6 ∷ 7 ∷ 14 ∷ 15 ∷ [])
    ∷ pick_l 0 (high ++ high_on) (0 ∷ 1 ∷ 8 ∷ 9 ∷ 4 ∷ 5 ∷ 12 ∷ 13 ∷ [])
    ∷ pick_l 0 (high ++ high_on) (2 ∷ 3 ∷ 10 ∷ 11 ∷ 6 ∷ 7 ∷ 14 ∷ 15 ∷ [])
    ∷ []
