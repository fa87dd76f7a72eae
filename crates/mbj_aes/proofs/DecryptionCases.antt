-- What the lookups of decryption give, computed at each byte.
use Rattle.std.proofs.Common.{◌≡◌, ℕ, ◌<◌, ◌==◌, List, true, nat_lt, bit_xor, refl, sym, ap, ◌∙◌}
use Rattle.std.proofs.lemmas.Bool.{ltb-true}
use Rattle.mbj_types.specs.Aes.{times, affine_bits, inv_affine_bits, sub_byte, inv_sub_byte}
use Rattle.mbj_aes.specs.declared.tables.TheConstants.{SBOX_CONSTANT, TO_DECRYPTION_LOW, TO_DECRYPTION_HIGH, FROM_DECRYPTION_LOW, FROM_DECRYPTION_HIGH, INV_SUB_NINE_FIRST, INV_SUB_NINE_SECOND, INV_SUB_ELEVEN_FIRST, INV_SUB_ELEVEN_SECOND, INV_SUB_THIRTEEN_FIRST, INV_SUB_THIRTEEN_SECOND, INV_SUB_FOURTEEN_FIRST, INV_SUB_FOURTEEN_SECOND, INV_SUB_PLAIN_FIRST, INV_SUB_PLAIN_SECOND}
use Rattle.mbj_aes.specs.Tower.{by_halves, from_decryption, inv_sub_of, first_quotient, second_quotient, high_denominator, sum_denominator, by_quotients}
use Rattle.mbj_aes.proofs.ByteCases.{each_below, at_each, same_at_each}
use Rattle.mbj_aes.proofs.ByteMaps.{inverse, sub_byte_is, inv_sub_byte_is}
use Rattle.mbj_aes.proofs.Sums.{xor_twice}
use Rattle.mbj_aes.proofs.TowerCases.{by_halves-xor}

-- inv_sub_of, computed
abbrev computed : ℕ → ℕ
computed x = inverse (inv_affine_bits (bit_xor (from_decryption x) SBOX_CONSTANT) 8)

is_computed : (x : ℕ) → computed x ≡ inv_sub_of x
is_computed x = sym (inv_sub_byte_is (bit_xor (from_decryption x) SBOX_CONSTANT))

-- ---- the two bases

-- a byte there and back
pub from_decryption-to_decryption : (x : ℕ) → x < 256 → from_decryption (by_halves TO_DECRYPTION_LOW TO_DECRYPTION_HIGH x) ≡ x
unfolding from_decryption
from_decryption-to_decryption x h =
    same_at_each (λ x. from_decryption (by_halves TO_DECRYPTION_LOW TO_DECRYPTION_HIGH x)) (λ x. x) 256 x refl h

pub from_decryption-lt : (x : ℕ) → x < 256 → from_decryption x < 256
unfolding from_decryption
from_decryption-lt x h = ltb-true (from_decryption x) 256 (at_each (λ x. nat_lt (from_decryption x) 256) 256 x refl h)

-- a sum in the basis of decryption
pub from_decryption-xor : (x y : ℕ) → x < 256 → y < 256 → from_decryption (bit_xor x y) ≡ bit_xor (from_decryption x) (from_decryption y)
unfolding from_decryption
from_decryption-xor x y h k = by_halves-xor FROM_DECRYPTION_LOW FROM_DECRYPTION_HIGH refl refl x y h k

-- ---- the inverse S-box

-- of what SBOX gives, without its constant
pub inv_sub_of-boxed : (x z : ℕ) → x < 256 → from_decryption z ≡ bit_xor (sub_byte x) SBOX_CONSTANT → inv_sub_of z ≡ x
unfolding times
inv_sub_of-boxed x z h e =
    ap (λ y. inv_sub_byte (bit_xor y SBOX_CONSTANT)) e
    ∙ ap inv_sub_byte (xor_twice (sub_byte x) SBOX_CONSTANT ∙ sub_byte_is x h)
    ∙ inv_sub_byte_is (affine_bits (inverse x) 8)
    ∙ same_at_each (λ x. inverse (inv_affine_bits (affine_bits (inverse x) 8) 8)) (λ x. x) 256 x refl h

module _ (x : ℕ) (h : x < 256) where
  -- a multiple of it, computed
  multiple : (n : ℕ) (first second : List ℕ) → each_below (λ x. from_decryption (by_quotients first second x) == times n (computed x)) 256 ≡ true
      → from_decryption (by_quotients first second x) ≡ times n (inv_sub_of x)
  multiple n first second e =
      same_at_each (λ x. from_decryption (by_quotients first second x)) (λ x. times n (computed x)) 256 x e h ∙ ap (times n) (is_computed x)

  pub inv_sub_nine : from_decryption (by_quotients INV_SUB_NINE_FIRST INV_SUB_NINE_SECOND x) ≡ times 9 (inv_sub_of x)
  unfolding from_decryption first_quotient second_quotient high_denominator sum_denominator times
  inv_sub_nine = multiple 9 INV_SUB_NINE_FIRST INV_SUB_NINE_SECOND refl

  pub inv_sub_eleven : from_decryption (by_quotients INV_SUB_ELEVEN_FIRST INV_SUB_ELEVEN_SECOND x) ≡ times 11 (inv_sub_of x)
  unfolding from_decryption first_quotient second_quotient high_denominator sum_denominator times
  inv_sub_eleven = multiple 11 INV_SUB_ELEVEN_FIRST INV_SUB_ELEVEN_SECOND refl

  pub inv_sub_thirteen : from_decryption (by_quotients INV_SUB_THIRTEEN_FIRST INV_SUB_THIRTEEN_SECOND x) ≡ times 13 (inv_sub_of x)
  unfolding from_decryption first_quotient second_quotient high_denominator sum_denominator times
  inv_sub_thirteen = multiple 13 INV_SUB_THIRTEEN_FIRST INV_SUB_THIRTEEN_SECOND refl

  pub inv_sub_fourteen : from_decryption (by_quotients INV_SUB_FOURTEEN_FIRST INV_SUB_FOURTEEN_SECOND x) ≡ times 14 (inv_sub_of x)
  unfolding from_decryption first_quotient second_quotient high_denominator sum_denominator times
  inv_sub_fourteen = multiple 14 INV_SUB_FOURTEEN_FIRST INV_SUB_FOURTEEN_SECOND refl

  -- and as plain bytes
  pub inv_sub_plain : by_quotients INV_SUB_PLAIN_FIRST INV_SUB_PLAIN_SECOND x ≡ inv_sub_of x
  unfolding from_decryption first_quotient second_quotient high_denominator sum_denominator times
  inv_sub_plain = same_at_each (by_quotients INV_SUB_PLAIN_FIRST INV_SUB_PLAIN_SECOND) computed 256 x refl h ∙ is_computed x
