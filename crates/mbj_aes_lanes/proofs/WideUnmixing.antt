-- INVMIXCOLUMNS of a column of plain bytes.
use Rattle.std.proofs.Common.{◌≡◌, ℕ, ◌*◌, ◌/◌, ◌%◌, ◌^◌, ◌<◌, [], ◌∷◌, bit_xor, refl, sym, ap, ◌∙◌}
use Rattle.std.proofs.lemmas.Nat.{xor_of_8}
use Rattle.mbj_types.specs.Aes.{xtime, times, mixed_byte, inv_mixed_byte}
use Rattle.mbj_types.specs.Lanes.{table_byte}
use Rattle.mbj_aes.proofs.ByteCases.{same_at_each}
use Rattle.mbj_aes.proofs.Circulants.{IsColumn, turned, mixed_after_spread}
use Rattle.mbj_aes.proofs.FieldProducts.{times-xor, times_2, times_3}
use Rattle.mbj_aes_lanes.specs.declared.wide.unmixing.TheConstants.{REDUCTIONS}
use Rattle.mbj_aes_lanes.proofs.XorSums.{term, plus, same_sum}

pub twice-byte : (x : ℕ) → x < 256 → bit_xor (x * 2 ^ 1 % 2 ^ 8) (table_byte REDUCTIONS (x / 2 ^ 7)) ≡ xtime x
twice-byte x h = same_at_each (λ x. bit_xor (x * 2 ^ 1 % 2 ^ 8) (table_byte REDUCTIONS (x / 2 ^ 7))) xtime 256 x refl h

pub mixed_byte-sum : (a b c d : ℕ) → a < 256 → b < 256
    → bit_xor (bit_xor (xtime (bit_xor a b)) b) (bit_xor c d) ≡ mixed_byte a b c d
mixed_byte-sum a b c d ha hb =
    let three : times 3 b ≡ bit_xor (times 2 b) b = sym (ap (λ (x : ℕ). bit_xor x b) (sym (times_2 b hb)) ∙ times_3 b hb) in
    ap (λ (x : ℕ). bit_xor (bit_xor x b) (bit_xor c d)) (times_2 (bit_xor a b) (xor_of_8 a b ha hb) ∙ times-xor 2 a b)
    ∙ same_sum
    (plus (plus (plus (term 0) (term 1)) (term 2)) (plus (term 3) (term 4)))
    (plus (plus (plus (term 0) (plus (term 1) (term 2))) (term 3)) (term 4))
    (times 2 a ∷ times 2 b ∷ b ∷ c ∷ d ∷ []) refl
    ∙ ap (λ (x : ℕ). bit_xor (bit_xor (bit_xor (times 2 a) x) c) d) (sym three)

-- a column times the matrix with the first row 05 00 04 00, and then mixed
pub column-unmixed : (a b c d p q r s : ℕ) → IsColumn a b c d
    → p ≡ bit_xor (times 5 a) (times 4 c) → q ≡ bit_xor (times 5 b) (times 4 d)
    → r ≡ bit_xor (times 5 c) (times 4 a) → s ≡ bit_xor (times 5 d) (times 4 b)
    → mixed_byte p q r s ∷ mixed_byte q r s p ∷ mixed_byte r s p q ∷ mixed_byte s p q r ∷ []
    ≡ inv_mixed_byte a b c d ∷ inv_mixed_byte b c d a ∷ inv_mixed_byte c d a b ∷ inv_mixed_byte d a b c ∷ []
column-unmixed a b c d p q r s h0 ep eq er es =
    let h1 : IsColumn b c d a = turned a b c d h0 in
    let h2 : IsColumn c d a b = turned b c d a h1 in
    let h3 : IsColumn d a b c = turned c d a b h2 in
    let b0 = (λ j. mixed_byte (ep j) (eq j) (er j) (es j)) ∙ mixed_after_spread a b c d h0 in
    let b1 = (λ j. mixed_byte (eq j) (er j) (es j) (ep j)) ∙ mixed_after_spread b c d a h1 in
    let b2 = (λ j. mixed_byte (er j) (es j) (ep j) (eq j)) ∙ mixed_after_spread c d a b h2 in
    let b3 = (λ j. mixed_byte (es j) (ep j) (eq j) (er j)) ∙ mixed_after_spread d a b c h3 in
    λ j. b0 j ∷ b1 j ∷ b2 j ∷ b3 j ∷ []
