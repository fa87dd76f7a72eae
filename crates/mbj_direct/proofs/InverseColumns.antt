-- INVMIXCOLUMNS of a sum, and INVSUBBYTES with INVSHIFTROWS.
use Rattle.std.proofs.Common.{◌≡◌, ℕ, List, [], ◌∷◌, ◌++◌, length, bit_xor, refl, sym, ap, ap₂, ◌∙◌, arith}
use Rattle.mbj_types.specs.Blocks.{xor_lists}
use Rattle.mbj_types.specs.Aes.{times, inv_sub_bytes, inv_shift_rows, inv_mixed_byte, inv_mix_columns}
use Rattle.mbj_aes.proofs.FieldProducts.{times-xor}
use Rattle.mbj_aes.proofs.Sums.{exchanged, sum4, sum4-same}

-- the sum of two sums of four, term by term
sums_added : (a b c d x y z w : ℕ)
    → sum4 (bit_xor a x) (bit_xor b y) (bit_xor c z) (bit_xor d w) ≡ bit_xor (sum4 a b c d) (sum4 x y z w)
sums_added a b c d x y z w =
    sym (exchanged (bit_xor (bit_xor a b) c) d (bit_xor (bit_xor x y) z) w
    ∙ ap (λ (u : ℕ). bit_xor u (bit_xor d w))
    (exchanged (bit_xor a b) c (bit_xor x y) z ∙ ap (λ (u : ℕ). bit_xor u (bit_xor c z)) (exchanged a b x y)))

-- a byte of a sum of two columns
byte_added : (a b c d x y z w : ℕ)
    → inv_mixed_byte (bit_xor a x) (bit_xor b y) (bit_xor c z) (bit_xor d w) ≡ bit_xor (inv_mixed_byte a b c d) (inv_mixed_byte x y z w)
byte_added a b c d x y z w =
    sum4-same (times-xor 0x0e a x) (times-xor 0x0b b y) (times-xor 0x0d c z) (times-xor 0x09 d w)
    ∙ sums_added (times 0x0e a) (times 0x0b b) (times 0x0d c) (times 0x09 d)
    (times 0x0e x) (times 0x0b y) (times 0x0d z) (times 0x09 w)

-- a column of INVMIXCOLUMNS
abbrev column : ℕ → ℕ → ℕ → ℕ → List ℕ
column a b c d = inv_mixed_byte a b c d ∷ inv_mixed_byte b c d a ∷ inv_mixed_byte c d a b ∷ inv_mixed_byte d a b c ∷ []

column_added : (a b c d x y z w : ℕ)
    → column (bit_xor a x) (bit_xor b y) (bit_xor c z) (bit_xor d w) ≡ xor_lists (column a b c d) (column x y z w)
column_added a b c d x y z w =
    ap₂ (λ u us. u ∷ us) (byte_added a b c d x y z w)
    (ap₂ (λ u us. u ∷ us) (byte_added b c d a y z w x)
    (ap₂ (λ u us. u ∷ us) (byte_added c d a b z w x y) (ap (λ (u : ℕ). u ∷ []) (byte_added d a b c w x y z))))

-- INVMIXCOLUMNS of a sum is the sum
pub columns_added : (s k : List ℕ) → length s ≡ 16 → length k ≡ 16
    → inv_mix_columns (xor_lists s k) ≡ xor_lists (inv_mix_columns s) (inv_mix_columns k)
columns_added (s0 ∷ s1 ∷ s2 ∷ s3 ∷ s4 ∷ s5 ∷ s6 ∷ s7 ∷ s8 ∷ s9 ∷ s10 ∷ s11 ∷ s12 ∷ s13 ∷ s14 ∷ s15 ∷ [])
    (k0 ∷ k1 ∷ k2 ∷ k3 ∷ k4 ∷ k5 ∷ k6 ∷ k7 ∷ k8 ∷ k9 ∷ k10 ∷ k11 ∷ k12 ∷ k13 ∷ k14 ∷ k15 ∷ []) h g =
    let join : List ℕ → List ℕ → List ℕ = λ xs ys. xs ++ ys in
    ap₂ join (ap₂ join (ap₂ join (column_added s0 s1 s2 s3 k0 k1 k2 k3) (column_added s4 s5 s6 s7 k4 k5 k6 k7))
    (column_added s8 s9 s10 s11 k8 k9 k10 k11)) (column_added s12 s13 s14 s15 k12 k13 k14 k15)
columns_added (s0 ∷ s1 ∷ s2 ∷ s3 ∷ s4 ∷ s5 ∷ s6 ∷ s7 ∷ s8 ∷ s9 ∷ s10 ∷ s11 ∷ s12 ∷ s13 ∷ s14 ∷ s15 ∷ []) k h g =
    absurd (omega arith)
columns_added s k h g = absurd (omega arith)

-- INVSUBBYTES and INVSHIFTROWS in either order
pub either_order : (s : List ℕ) → length s ≡ 16 → inv_sub_bytes (inv_shift_rows s) ≡ inv_shift_rows (inv_sub_bytes s)
either_order (s0 ∷ s1 ∷ s2 ∷ s3 ∷ s4 ∷ s5 ∷ s6 ∷ s7 ∷ s8 ∷ s9 ∷ s10 ∷ s11 ∷ s12 ∷ s13 ∷ s14 ∷ s15 ∷ []) h = refl
either_order s h = absurd (omega arith)
