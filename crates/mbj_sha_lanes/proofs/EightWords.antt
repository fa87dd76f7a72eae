-- The eight words of a hash value: as numbers, as lane words, and as vectors.
use Rattle.std.proofs.Common.{◌≡◌, ℕ, ◌∷◌, [], List, length, slice_index_or, slice_set, get_or, refl, arith}
use Rattle.mbj_types.specs.Lanes.{lane_of}

-- eight lane words that were read from a list of eight
pub eight_read : {V : Type 0} (lane : V → ℕ → ℕ) (xs : List V) (a b c d e f g h : V) (i : ℕ) → length xs ≡ 8
    → a ≡ get_or xs 0 a → b ≡ get_or xs 1 b → c ≡ get_or xs 2 c → d ≡ get_or xs 3 d → e ≡ get_or xs 4 e → f ≡ get_or xs 5 f → g ≡ get_or xs 6 g → h ≡ get_or xs 7 h
    → (lane a i ∷ lane b i ∷ lane c i ∷ lane d i ∷ lane e i ∷ lane f i ∷ lane g i ∷ lane h i ∷ []) ≡ lane_of lane xs i
eight_read lane (x0 ∷ x1 ∷ x2 ∷ x3 ∷ x4 ∷ x5 ∷ x6 ∷ x7 ∷ []) a b c d e f g h i l p0 p1 p2 p3 p4 p5 p6 p7 = rw (p0, p1, p2, p3, p4, p5, p6, p7) refl
eight_read lane xs a b c d e f g h i l p0 p1 p2 p3 p4 p5 p6 p7 = absurd (omega arith)

-- a list of eight after a write at each place
pub eight_written : {V : Type 0} (lane : V → ℕ → ℕ) (xs : List V) (a b c d e f g h : V) (i : ℕ) → length xs ≡ 8
    → lane_of lane (slice_set (slice_set (slice_set (slice_set (slice_set (slice_set (slice_set (slice_set xs 0 a) 1 b) 2 c) 3 d) 4 e) 5 f) 6 g) 7 h) i
    ≡ (lane a i ∷ lane b i ∷ lane c i ∷ lane d i ∷ lane e i ∷ lane f i ∷ lane g i ∷ lane h i ∷ [])
eight_written lane (x0 ∷ x1 ∷ x2 ∷ x3 ∷ x4 ∷ x5 ∷ x6 ∷ x7 ∷ []) a b c d e f g h i l = refl
eight_written lane xs a b c d e f g h i l = absurd (omega arith)

-- eight vectors at one lane, by place
pub eight_at : (lane : List ℕ → ℕ → ℕ) (xs : List (List ℕ)) (i : ℕ) → length xs ≡ 8
    → lane_of lane xs i ≡ lane (slice_index_or xs 0 []) i ∷ lane (slice_index_or xs 1 []) i ∷ lane (slice_index_or xs 2 []) i ∷ lane (slice_index_or xs 3 []) i ∷ lane (slice_index_or xs 4 []) i ∷ lane (slice_index_or xs 5 []) i ∷ lane (slice_index_or xs 6 []) i ∷ lane (slice_index_or xs 7 []) i ∷ []
eight_at lane (x0 ∷ x1 ∷ x2 ∷ x3 ∷ x4 ∷ x5 ∷ x6 ∷ x7 ∷ []) i l = refl
eight_at lane xs i l = absurd (omega arith)
