-- The words of a block as a window, and the five lane words of hash values in one lane.
use Rattle.std.proofs.Common.{◌≡◌, ℕ, ◌+◌, List, [], ◌∷◌, length, slice_index, slice_index_or, slice_set, get_or, refl, sym, ap, ◌∙◌, arith}
use Rattle.sha1.specs.Sha1.{first_words, schedule, IsWindow}
use Rattle.sha1.proofs.Schedule.{IsWindow_first, length-first_words, slice_index-first_words}
use Rattle.mbj_types.specs.Lanes.{lane_of}

-- one round on
pub one_on : (t k : ℕ) → t + k + 1 ≡ t + (k + 1)
one_on t k = omega arith

-- the first 16 words of a block are the window before round 16
pub window_of : (b w : List ℕ) → first_words b 16 ≡ w → IsWindow w (schedule b 64) 16
window_of b w e =
    IsWindow_first b w (ap length (sym e) ∙ length-first_words b 16)
    (λ k h. ap (λ x. slice_index x k) (sym e) ∙ slice_index-first_words b 16 k h)

-- five lane words that were read from a list of five
pub five_read : {V : Type 0} (lane : V → ℕ → ℕ) (xs : List V) (a b c d e : V) (i : ℕ) → length xs ≡ 5
    → a ≡ get_or xs 0 a → b ≡ get_or xs 1 b → c ≡ get_or xs 2 c → d ≡ get_or xs 3 d → e ≡ get_or xs 4 e
    → (lane a i ∷ lane b i ∷ lane c i ∷ lane d i ∷ lane e i ∷ []) ≡ lane_of lane xs i
five_read lane (x0 ∷ x1 ∷ x2 ∷ x3 ∷ x4 ∷ []) a b c d e i h p0 p1 p2 p3 p4 = rw (p0, p1, p2, p3, p4) refl
five_read lane xs a b c d e i h p0 p1 p2 p3 p4 = absurd (omega arith)

-- a list of five after a write at each place
pub five_written : {V : Type 0} (lane : V → ℕ → ℕ) (xs : List V) (a b c d e : V) (i : ℕ) → length xs ≡ 5
    → lane_of lane (slice_set (slice_set (slice_set (slice_set (slice_set xs 0 a) 1 b) 2 c) 3 d) 4 e) i
    ≡ (lane a i ∷ lane b i ∷ lane c i ∷ lane d i ∷ lane e i ∷ [])
five_written lane (x0 ∷ x1 ∷ x2 ∷ x3 ∷ x4 ∷ []) a b c d e i h = refl
five_written lane xs a b c d e i h = absurd (omega arith)

-- five vectors at one lane, by place
pub five_at : (lane : List ℕ → ℕ → ℕ) (xs : List (List ℕ)) (i : ℕ) → length xs ≡ 5
    → lane_of lane xs i ≡ lane (slice_index_or xs 0 []) i ∷ lane (slice_index_or xs 1 []) i ∷ lane (slice_index_or xs 2 []) i
    ∷ lane (slice_index_or xs 3 []) i ∷ lane (slice_index_or xs 4 []) i ∷ []
five_at lane (a ∷ b ∷ c ∷ d ∷ e ∷ []) i h = refl
five_at lane xs i h = absurd (omega arith)
