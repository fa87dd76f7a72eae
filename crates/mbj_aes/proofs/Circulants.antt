-- Columns of four bytes times circulant matrices, and the two matrices of FIPS 197 as each other's inverse.
use Rattle.std.proofs.Common.{◌≡◌, ℕ, ◌<◌, ◌==◌, true, bit_xor, refl, ap, ap₂, sym, ◌∙◌, arith}
use Rattle.std.proofs.lemmas.Nat.{xor_of_8}
use lib.Bits.{xor_zero_r}
use Rattle.mbj_types.specs.Aes.{times, mixed_byte, inv_mixed_byte}
use Rattle.mbj_aes.proofs.ByteCases.{each_below, same_at_each}
use Rattle.mbj_aes.proofs.Sums.{sum4, sum4-turned, sum4-same, sum4-zeros, sum4-transposed}
use Rattle.mbj_aes.proofs.FieldProducts.{times-xor, times_small, times_0, times_1}

-- a column of four bytes
pub record IsColumn (a b c d : ℕ) : Type 0 where
  pub first : a < 256
  pub second : b < 256
  pub third : c < 256
  pub fourth : d < 256

-- the column turned by one place
pub turned : (a b c d : ℕ) → IsColumn a b c d → IsColumn b c d a
turned a b c d h = record { first = h.second; second = h.third; third = h.fourth; fourth = h.first }

-- the first byte of the column a b c d times the matrix with the first row f g h k;
-- the other bytes are the first bytes of the column turned
abbrev circulant : ℕ → ℕ → ℕ → ℕ → ℕ → ℕ → ℕ → ℕ → ℕ
circulant f g h k a b c d = sum4 (times f a) (times g b) (times h c) (times k d)

-- the first byte of the column a b c d that m changes, each of whose bytes n has changed before
abbrev pub after : (ℕ → ℕ → ℕ → ℕ → ℕ) → (ℕ → ℕ → ℕ → ℕ → ℕ) → ℕ → ℕ → ℕ → ℕ → ℕ
after m n a b c d = m (n a b c d) (n b c d a) (n c d a b) (n d a b c)

-- ---- the product of two matrices

-- a byte times a sum of four
times-sum4 : (f a b c d : ℕ) → times f (sum4 a b c d) ≡ sum4 (times f a) (times f b) (times f c) (times f d)
times-sum4 f a b c d =
    times-xor f (bit_xor (bit_xor a b) c) d
    ∙ ap (λ (x : ℕ). bit_xor x (times f d))
    (times-xor f (bit_xor a b) c ∙ ap (λ (x : ℕ). bit_xor x (times f c)) (times-xor f a b))

-- the row f g h k times the column p q r s, at the byte x
abbrev entry : ℕ → ℕ → ℕ → ℕ → ℕ → ℕ → ℕ → ℕ → ℕ → ℕ
entry f g h k p q r s x = circulant f g h k (times p x) (times q x) (times r x) (times s x)

-- the product, sorted by the bytes of the column
circulant-circulant : (f g h k p q r s a b c d : ℕ)
    → after (circulant f g h k) (circulant p q r s) a b c d
    ≡ sum4 (entry f g h k p s r q a) (entry f g h k q p s r b) (entry f g h k r q p s c) (entry f g h k s r q p d)
circulant-circulant f g h k p q r s a b c d =
    sum4-same
    (times-sum4 f (times p a) (times q b) (times r c) (times s d))
    (times-sum4 g (times p b) (times q c) (times r d) (times s a)
    ∙ sum4-turned (times g (times p b)) (times g (times q c)) (times g (times r d)) (times g (times s a)))
    (times-sum4 h (times p c) (times q d) (times r a) (times s b)
    ∙ sum4-turned (times h (times p c)) (times h (times q d)) (times h (times r a)) (times h (times s b))
    ∙ sum4-turned (times h (times s b)) (times h (times p c)) (times h (times q d)) (times h (times r a)))
    (times-sum4 k (times p d) (times q a) (times r b) (times s c)
    ∙ sym (sum4-turned (times k (times q a)) (times k (times r b)) (times k (times s c)) (times k (times p d))))
    ∙ sum4-transposed
    (times f (times p a)) (times f (times q b)) (times f (times r c)) (times f (times s d))
    (times g (times s a)) (times g (times p b)) (times g (times q c)) (times g (times r d))
    (times h (times r a)) (times h (times s b)) (times h (times p c)) (times h (times q d))
    (times k (times q a)) (times k (times r b)) (times k (times s c)) (times k (times p d))

-- the product has the first row t u v w, where its entries do at each byte
product : (f g h k p q r s t u v w : ℕ)
    → each_below (λ x. entry f g h k p s r q x == times t x) 256 ≡ true
    → each_below (λ x. entry f g h k q p s r x == times u x) 256 ≡ true
    → each_below (λ x. entry f g h k r q p s x == times v x) 256 ≡ true
    → each_below (λ x. entry f g h k s r q p x == times w x) 256 ≡ true
    → (a b c d : ℕ) → IsColumn a b c d
    → after (circulant f g h k) (circulant p q r s) a b c d ≡ circulant t u v w a b c d
product f g h k p q r s t u v w et eu ev ew a b c d column =
    circulant-circulant f g h k p q r s a b c d
    ∙ sum4-same
    (same_at_each (entry f g h k p s r q) (times t) 256 a et column.first)
    (same_at_each (entry f g h k q p s r) (times u) 256 b eu column.second)
    (same_at_each (entry f g h k r q p s) (times v) 256 c ev column.third)
    (same_at_each (entry f g h k s r q p) (times w) 256 d ew column.fourth)

-- ---- the matrices of MIXCOLUMNS and INVMIXCOLUMNS

-- the matrix of ones on the diagonal changes nothing
unit : (a b c d : ℕ) → IsColumn a b c d → circulant 1 0 0 0 a b c d ≡ a
unit a b c d h =
    sum4-same (times_1 a h.first) (times_0 b h.second) (times_0 c h.third) (times_0 d h.fourth) ∙ sum4-zeros a

-- MIXCOLUMNS has the first row 02 03 01 01
mixed_is : (a b c d : ℕ) → c < 256 → d < 256 → mixed_byte a b c d ≡ circulant 2 3 1 1 a b c d
mixed_is a b c d hc hd =
    ap₂ bit_xor (ap (bit_xor (bit_xor (times 2 a) (times 3 b))) (sym (times_1 c hc))) (sym (times_1 d hd))

-- what MIXCOLUMNS makes of bytes
pub mixed_byte_small : (a b c d : ℕ) → IsColumn a b c d → mixed_byte a b c d < 256
mixed_byte_small a b c d h =
    let two : bit_xor (times 2 a) (times 3 b) < 256 =
    xor_of_8 _ _ (times_small 2 a (omega arith)) (times_small 3 b (omega arith)) in
    xor_of_8 _ _ (xor_of_8 _ _ two h.third) h.fourth

-- what INVMIXCOLUMNS makes of any numbers
pub inv_mixed_byte_small : (a b c d : ℕ) → inv_mixed_byte a b c d < 256
inv_mixed_byte_small a b c d =
    let two : bit_xor (times 14 a) (times 11 b) < 256 =
    xor_of_8 _ _ (times_small 14 a (omega arith)) (times_small 11 b (omega arith)) in
    xor_of_8 _ _ (xor_of_8 _ _ two (times_small 13 c (omega arith))) (times_small 9 d (omega arith))

-- mixed and then unmixed
pub unmixed_byte : (a b c d : ℕ) → IsColumn a b c d → after inv_mixed_byte mixed_byte a b c d ≡ a
unfolding times
unmixed_byte a b c d h =
    sum4-same
    (ap (times 14) (mixed_is a b c d h.third h.fourth))
    (ap (times 11) (mixed_is b c d a h.fourth h.first))
    (ap (times 13) (mixed_is c d a b h.first h.second))
    (ap (times 9) (mixed_is d a b c h.second h.third))
    ∙ product 14 11 13 9 2 3 1 1 1 0 0 0 refl refl refl refl a b c d h
    ∙ unit a b c d h

-- unmixed and then mixed
pub remixed_byte : (a b c d : ℕ) → IsColumn a b c d → after mixed_byte inv_mixed_byte a b c d ≡ a
unfolding times
remixed_byte a b c d h =
    mixed_is (inv_mixed_byte a b c d) (inv_mixed_byte b c d a) (inv_mixed_byte c d a b) (inv_mixed_byte d a b c)
    (inv_mixed_byte_small c d a b) (inv_mixed_byte_small d a b c)
    ∙ product 2 3 1 1 14 11 13 9 1 0 0 0 refl refl refl refl a b c d h
    ∙ unit a b c d h

-- ---- INVMIXCOLUMNS as MIXCOLUMNS after the matrix with the first row 05 00 04 00

-- the first byte of a column times that matrix
abbrev pub spread_byte : ℕ → ℕ → ℕ → ℕ → ℕ
spread_byte a b c d = bit_xor (times 5 a) (times 4 c)

-- its zeros left out
spread_is : (a b c d : ℕ) → b < 256 → d < 256 → spread_byte a b c d ≡ circulant 5 0 4 0 a b c d
spread_is a b c d hb hd =
    let zeros : circulant 5 0 4 0 a b c d ≡ sum4 (times 5 a) 0 (times 4 c) 0 =
    ap₂ (λ x y. sum4 (times 5 a) x (times 4 c) y) (times_0 b hb) (times_0 d hd) in
    sym (zeros
    ∙ xor_zero_r (bit_xor (bit_xor (times 5 a) 0) (times 4 c))
    ∙ ap (λ (x : ℕ). bit_xor x (times 4 c)) (xor_zero_r (times 5 a)))

-- what it makes of any numbers
spread_byte_small : (a b c d : ℕ) → spread_byte a b c d < 256
spread_byte_small a b c d = xor_of_8 _ _ (times_small 5 a (omega arith)) (times_small 4 c (omega arith))

-- the product of the two matrices is that of INVMIXCOLUMNS
pub mixed_after_spread : (a b c d : ℕ) → IsColumn a b c d
    → after mixed_byte spread_byte a b c d ≡ inv_mixed_byte a b c d
unfolding times
mixed_after_spread a b c d h =
    mixed_is (spread_byte a b c d) (spread_byte b c d a) (spread_byte c d a b) (spread_byte d a b c)
    (spread_byte_small c d a b) (spread_byte_small d a b c)
    ∙ sum4-same
    (ap (times 2) (spread_is a b c d h.second h.fourth))
    (ap (times 3) (spread_is b c d a h.third h.first))
    (ap (times 1) (spread_is c d a b h.fourth h.second))
    (ap (times 1) (spread_is d a b c h.first h.third))
    ∙ product 2 3 1 1 5 0 4 0 14 11 13 9 refl refl refl refl a b c d h
