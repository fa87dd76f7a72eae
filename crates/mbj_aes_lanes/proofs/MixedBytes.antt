-- MIXCOLUMNS and ADDROUNDKEY of bytes in the tower's basis.
use Rattle.std.proofs.Common.{◌≡◌, ℕ, ◌<◌, [], ◌∷◌, bit_xor, refl, sym, ap, ap₂, ◌∙◌, arith}
use Rattle.std.proofs.lemmas.Nat.{xor_of_8}
use Rattle.mbj_types.specs.Aes.{times, mixed_byte}
use Rattle.mbj_aes.specs.declared.tables.TheConstants.{SBOX_CONSTANT}
use Rattle.mbj_aes.specs.Tower.{from_tower}
use Rattle.mbj_aes.proofs.FieldProducts.{times-xor, times_2, times_3}
use Rattle.mbj_aes.proofs.TowerCases.{from_tower-xor}
use Rattle.mbj_aes_lanes.proofs.XorSums.{term, plus, same_sum}

-- a sum of six bytes, as it is made
abbrev pub sum6 : ℕ → ℕ → ℕ → ℕ → ℕ → ℕ → ℕ
sum6 a b c d e f = bit_xor (bit_xor (bit_xor a b) c) (bit_xor (bit_xor d e) f)

pub from_tower-sum6 : (a b c d e f : ℕ) → a < 256 → b < 256 → c < 256 → d < 256 → e < 256 → f < 256
    → from_tower (sum6 a b c d e f) ≡ sum6 (from_tower a) (from_tower b) (from_tower c) (from_tower d) (from_tower e) (from_tower f)
from_tower-sum6 a b c d e f ha hb hc hd he hf = grind (arith, from_tower-xor, xor_of_8)

-- the constant of SBOX goes through a column, and the key has it
pub mixed_is : (a b c d k : ℕ) → b < 256
    → sum6 (times 2 (bit_xor a SBOX_CONSTANT)) (bit_xor c SBOX_CONSTANT) k (times 2 (bit_xor b SBOX_CONSTANT)) (bit_xor d SBOX_CONSTANT) (bit_xor b SBOX_CONSTANT)
    ≡ bit_xor (mixed_byte a b c d) (bit_xor k SBOX_CONSTANT)
mixed_is a b c d k h =
    let three : times 3 b ≡ bit_xor (times 2 b) b = sym (ap (λ (x : ℕ). bit_xor x b) (sym (times_2 b h)) ∙ times_3 b h) in
    ap₂ (λ x y. sum6 x (bit_xor c SBOX_CONSTANT) k y (bit_xor d SBOX_CONSTANT) (bit_xor b SBOX_CONSTANT)) (times-xor 2 a SBOX_CONSTANT) (times-xor 2 b SBOX_CONSTANT)
    ∙ same_sum
    (plus (plus (plus (plus (term 0) (term 1)) (plus (term 2) (term 3))) (term 4)) (plus (plus (plus (term 5) (term 1)) (plus (term 6) (term 3))) (plus (term 7) (term 3))))
    (plus (plus (plus (plus (term 0) (plus (term 5) (term 7))) (term 2)) (term 6)) (plus (term 4) (term 3)))
    (times 2 a ∷ times 2 SBOX_CONSTANT ∷ c ∷ SBOX_CONSTANT ∷ k ∷ times 2 b ∷ d ∷ b ∷ []) refl
    ∙ ap (λ (x : ℕ). bit_xor (bit_xor (bit_xor (bit_xor (times 2 a) x) c) d) (bit_xor k SBOX_CONSTANT)) (sym three)
