-- Xors of four numbers, which add the terms of a product with a matrix.
use Rattle.std.proofs.Common.{◌≡◌, ℕ, bit_xor, sym, ap, ap₂, ◌∙◌}
use lib.Bits.{xor_assoc, xor_comm, xor_self, xor_zero_r}

abbrev pub sum4 : ℕ → ℕ → ℕ → ℕ → ℕ
sum4 a b c d = bit_xor (bit_xor (bit_xor a b) c) d

-- (p + q) + (r + s) is (p + r) + (q + s)
pub exchanged : (p q r s : ℕ) → bit_xor (bit_xor p q) (bit_xor r s) ≡ bit_xor (bit_xor p r) (bit_xor q s)
exchanged p q r s =
    xor_assoc p q (bit_xor r s)
    ∙ ap (λ (x : ℕ). bit_xor p x) (sym (xor_assoc q r s) ∙ ap (λ (x : ℕ). bit_xor x s) (xor_comm q r) ∙ xor_assoc r q s)
    ∙ sym (xor_assoc p r (bit_xor q s))

-- the last term first
pub sum4-turned : (a b c d : ℕ) → sum4 a b c d ≡ sum4 d a b c
sum4-turned a b c d =
    xor_comm (bit_xor (bit_xor a b) c) d
    ∙ sym (xor_assoc d (bit_xor a b) c)
    ∙ ap (λ (x : ℕ). bit_xor x c) (sym (xor_assoc d a b))

-- equal terms
pub sum4-same : {a b c d x y z w : ℕ} → a ≡ x → b ≡ y → c ≡ z → d ≡ w → sum4 a b c d ≡ sum4 x y z w
sum4-same e f g h = ap₂ bit_xor (ap₂ bit_xor (ap₂ bit_xor e f) g) h

-- one term alone
pub sum4-zeros : (a : ℕ) → sum4 a 0 0 0 ≡ a
sum4-zeros a = xor_zero_r (bit_xor (bit_xor a 0) 0) ∙ xor_zero_r (bit_xor a 0) ∙ xor_zero_r a

-- the sum of two sums of four, term by term
sum4-added : (a b c d x y z w : ℕ)
    → bit_xor (sum4 a b c d) (sum4 x y z w) ≡ sum4 (bit_xor a x) (bit_xor b y) (bit_xor c z) (bit_xor d w)
sum4-added a b c d x y z w =
    exchanged (bit_xor (bit_xor a b) c) d (bit_xor (bit_xor x y) z) w
    ∙ ap (λ (u : ℕ). bit_xor u (bit_xor d w))
    (exchanged (bit_xor a b) c (bit_xor x y) z ∙ ap (λ (u : ℕ). bit_xor u (bit_xor c z)) (exchanged a b x y))

-- the sum of four rows is the sum of their columns
pub sum4-transposed : (a0 a1 a2 a3 b0 b1 b2 b3 c0 c1 c2 c3 d0 d1 d2 d3 : ℕ)
    → sum4 (sum4 a0 a1 a2 a3) (sum4 b0 b1 b2 b3) (sum4 c0 c1 c2 c3) (sum4 d0 d1 d2 d3)
    ≡ sum4 (sum4 a0 b0 c0 d0) (sum4 a1 b1 c1 d1) (sum4 a2 b2 c2 d2) (sum4 a3 b3 c3 d3)
sum4-transposed a0 a1 a2 a3 b0 b1 b2 b3 c0 c1 c2 c3 d0 d1 d2 d3 =
    ap (λ (u : ℕ). bit_xor (bit_xor u (sum4 c0 c1 c2 c3)) (sum4 d0 d1 d2 d3)) (sum4-added a0 a1 a2 a3 b0 b1 b2 b3)
    ∙ ap (λ (u : ℕ). bit_xor u (sum4 d0 d1 d2 d3))
    (sum4-added (bit_xor a0 b0) (bit_xor a1 b1) (bit_xor a2 b2) (bit_xor a3 b3) c0 c1 c2 c3)
    ∙ sum4-added (bit_xor (bit_xor a0 b0) c0) (bit_xor (bit_xor a1 b1) c1)
    (bit_xor (bit_xor a2 b2) c2) (bit_xor (bit_xor a3 b3) c3) d0 d1 d2 d3

-- a number that is added twice is gone
pub xor_twice : (x y : ℕ) → bit_xor (bit_xor x y) y ≡ x
xor_twice x y = xor_assoc x y y ∙ ap (bit_xor x) (xor_self y) ∙ xor_zero_r x
