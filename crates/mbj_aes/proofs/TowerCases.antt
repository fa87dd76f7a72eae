-- What the lookups give, computed at each byte.
use Rattle.std.proofs.Common.{◌≡◌, ℕ, ◌/◌, ◌%◌, ◌<◌, ◌||◌, ◌==◌, List, Bool, true, false, nat_lt, nat_le, bit_xor, refl, sym, ap, ap₂, ◌∙◌, inl, inr, arith}
use Rattle.std.proofs.lemmas.Bool.{ltb-true, leb-true}
use lib.Bits.{xor_mod, xor_shr}
use Rattle.mbj_types.specs.Aes.{times, affine_bits}
use Rattle.mbj_types.specs.Lanes.{IsTableIndex, table_byte}
use Rattle.mbj_aes.specs.declared.tables.TheConstants.{SBOX_CONSTANT, TO_TOWER_LOW, TO_TOWER_HIGH, FROM_TOWER_LOW, FROM_TOWER_HIGH, SUB_FIRST, SUB_SECOND, SUB_TWICE_FIRST, SUB_TWICE_SECOND, SUB_PLAIN_FIRST, SUB_PLAIN_SECOND}
use Rattle.mbj_aes.specs.Tower.{by_halves, from_tower, half_sum, high_denominator, sum_denominator, first_quotient, second_quotient, by_quotients, bare_sub_byte}
use Rattle.mbj_aes.proofs.ByteCases.{at_each, same_at_each, each_below}
use Rattle.mbj_aes.proofs.ByteMaps.{inverse, sub_byte_is}
use Rattle.mbj_aes.proofs.Sums.{exchanged}

-- ---- indexes

abbrev is_index : ℕ → Bool
is_index x = nat_lt x 16 || nat_le 128 x

told : (x : ℕ) → is_index x ≡ true → IsTableIndex x
told x h = go (nat_lt x 16) refl h
  where
    go : (t : Bool) → nat_lt x 16 ≡ t → (t || nat_le 128 x) ≡ true → IsTableIndex x
    go true e h = inl (ltb-true x 16 e)
    go false e h = inr (leb-true 128 x h)

pub half_sum-index : (x : ℕ) → x < 256 → IsTableIndex (half_sum x)
half_sum-index x h = told (half_sum x) (at_each (λ x. is_index (half_sum x)) 256 x refl h)

pub high_denominator-index : (x : ℕ) → x < 256 → IsTableIndex (high_denominator x)
unfolding high_denominator
high_denominator-index x h = told (high_denominator x) (at_each (λ x. is_index (high_denominator x)) 256 x refl h)

pub sum_denominator-index : (x : ℕ) → x < 256 → IsTableIndex (sum_denominator x)
unfolding sum_denominator
sum_denominator-index x h = told (sum_denominator x) (at_each (λ x. is_index (sum_denominator x)) 256 x refl h)

pub first_quotient-index : (x : ℕ) → x < 256 → IsTableIndex (first_quotient x)
unfolding first_quotient high_denominator
first_quotient-index x h = told (first_quotient x) (at_each (λ x. is_index (first_quotient x)) 256 x refl h)

pub second_quotient-index : (x : ℕ) → x < 256 → IsTableIndex (second_quotient x)
unfolding second_quotient sum_denominator
second_quotient-index x h = told (second_quotient x) (at_each (λ x. is_index (second_quotient x)) 256 x refl h)

-- ---- the two bases

pub from_tower-lt : (x : ℕ) → x < 256 → from_tower x < 256
unfolding from_tower
from_tower-lt x h = ltb-true (from_tower x) 256 (at_each (λ x. nat_lt (from_tower x) 256) 256 x refl h)

-- a byte there and back
pub from_tower-to_tower : (x : ℕ) → x < 256 → from_tower (by_halves TO_TOWER_LOW TO_TOWER_HIGH x) ≡ x
unfolding from_tower
from_tower-to_tower x h = same_at_each (λ x. from_tower (by_halves TO_TOWER_LOW TO_TOWER_HIGH x)) (λ x. x) 256 x refl h

-- whether what a table gives of a sum of halves is the sum of what it gives of them
abbrev pub adds_at : List ℕ → ℕ → Bool
adds_at table x = each_below (λ y. table_byte table (bit_xor x y) == bit_xor (table_byte table x) (table_byte table y)) 16

added : (table : List ℕ) → each_below (adds_at table) 16 ≡ true → (x y : ℕ) → x < 16 → y < 16
    → table_byte table (bit_xor x y) ≡ bit_xor (table_byte table x) (table_byte table y)
added table e x y h k =
    same_at_each (λ y. table_byte table (bit_xor x y)) (λ y. bit_xor (table_byte table x) (table_byte table y)) 16 y (at_each (adds_at table) 16 x e h) k

-- what two such tables give of a sum
pub by_halves-xor : (low high : List ℕ) → each_below (adds_at low) 16 ≡ true → each_below (adds_at high) 16 ≡ true
    → (x y : ℕ) → x < 256 → y < 256 → by_halves low high (bit_xor x y) ≡ bit_xor (by_halves low high x) (by_halves low high y)
by_halves-xor low high adds_low adds_high x y h k =
    ap₂ (λ p q. bit_xor (table_byte low p) (table_byte high q)) (xor_mod x y 4) (xor_shr x y 4)
    ∙ ap₂ bit_xor (added low adds_low (x % 16) (y % 16) (omega arith) (omega arith)) (added high adds_high (x / 16) (y / 16) (omega arith) (omega arith))
    ∙ exchanged (table_byte low (x % 16)) (table_byte low (y % 16)) (table_byte high (x / 16)) (table_byte high (y / 16))

-- a sum in the tower's basis
pub from_tower-xor : (x y : ℕ) → x < 256 → y < 256 → from_tower (bit_xor x y) ≡ bit_xor (from_tower x) (from_tower y)
unfolding from_tower
from_tower-xor x y h k = by_halves-xor FROM_TOWER_LOW FROM_TOWER_HIGH refl refl x y h k

-- ---- the S-box

-- in the tower's basis
pub sub_in_tower : (x : ℕ) → x < 256 → from_tower (by_quotients SUB_FIRST SUB_SECOND x) ≡ bare_sub_byte (from_tower x)
unfolding from_tower first_quotient second_quotient high_denominator sum_denominator times
sub_in_tower x h =
    same_at_each (λ x. from_tower (by_quotients SUB_FIRST SUB_SECOND x)) (λ x. bit_xor (affine_bits (inverse (from_tower x)) 8) SBOX_CONSTANT) 256 x refl h
    ∙ ap (λ (y : ℕ). bit_xor y SBOX_CONSTANT) (sym (sub_byte_is (from_tower x) (from_tower-lt x h)))

-- twice as much
pub sub_twice_in_tower : (x : ℕ) → x < 256 → from_tower (by_quotients SUB_TWICE_FIRST SUB_TWICE_SECOND x) ≡ times 2 (bare_sub_byte (from_tower x))
unfolding from_tower first_quotient second_quotient high_denominator sum_denominator times
sub_twice_in_tower x h =
    same_at_each (λ x. from_tower (by_quotients SUB_TWICE_FIRST SUB_TWICE_SECOND x)) (λ x. times 2 (from_tower (by_quotients SUB_FIRST SUB_SECOND x))) 256 x refl h
    ∙ ap (times 2) (sub_in_tower x h)

-- and as plain bytes
pub sub_from_tower : (x : ℕ) → x < 256 → by_quotients SUB_PLAIN_FIRST SUB_PLAIN_SECOND x ≡ bare_sub_byte (from_tower x)
unfolding from_tower first_quotient second_quotient high_denominator sum_denominator times
sub_from_tower x h =
    same_at_each (by_quotients SUB_PLAIN_FIRST SUB_PLAIN_SECOND) (λ x. from_tower (by_quotients SUB_FIRST SUB_SECOND x)) 256 x refl h
    ∙ sub_in_tower x h
