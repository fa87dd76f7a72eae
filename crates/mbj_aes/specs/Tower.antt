-- Bytes in the tower's basis, and what lookups of their halves make of them. Clauses on keys and blocks cite none of this.
use Rattle.std.specs.Prelude.{ℕ, ◌*◌, ◌/◌, ◌%◌, List, bit_xor}
use Rattle.mbj_types.specs.Aes.{affine_bits, sub_byte, inv_sub_byte}
use Rattle.mbj_types.specs.Lanes.{table_byte}
use Rattle.mbj_aes.specs.declared.tables.TheConstants.{SBOX_CONSTANT, FROM_TOWER_LOW, FROM_TOWER_HIGH, INVERSES, SCALED_INVERSES, FROM_DECRYPTION_LOW, FROM_DECRYPTION_HIGH}

-- the sum of what two tables have at the halves of a byte
abbrev pub by_halves : List ℕ → List ℕ → ℕ → ℕ
by_halves low high x = bit_xor (table_byte low (x % 16)) (table_byte high (x / 16))

-- the byte that stands in the tower's basis as x
unfoldable pub from_tower : ℕ → ℕ
from_tower x = by_halves FROM_TOWER_LOW FROM_TOWER_HIGH x

-- the element of the subfield that half a byte stands for
abbrev pub element : ℕ → ℕ
element n = from_tower (16 * n)

-- ---- the quotients of a byte with the halves i and k

-- j = i + k
abbrev pub half_sum : ℕ → ℕ
half_sum x = bit_xor (x / 16) (x % 16)

-- 1 / i + A / k
unfoldable pub high_denominator : ℕ → ℕ
high_denominator x = bit_xor (table_byte INVERSES (x / 16)) (table_byte SCALED_INVERSES (x % 16))

-- 1 / j + A / k
unfoldable pub sum_denominator : ℕ → ℕ
sum_denominator x = bit_xor (table_byte INVERSES (half_sum x)) (table_byte SCALED_INVERSES (x % 16))

unfoldable pub first_quotient : ℕ → ℕ
first_quotient x = bit_xor (table_byte INVERSES (high_denominator x)) (half_sum x)

unfoldable pub second_quotient : ℕ → ℕ
second_quotient x = bit_xor (table_byte INVERSES (sum_denominator x)) (x / 16)

-- the sum of what two tables have at them
abbrev pub by_quotients : List ℕ → List ℕ → ℕ → ℕ
by_quotients first second x = bit_xor (table_byte first (first_quotient x)) (table_byte second (second_quotient x))

-- the linear part of SBOX's affine map
abbrev pub linear_part : ℕ → ℕ
linear_part x = bit_xor (affine_bits x 8) SBOX_CONSTANT

-- SBOX without its constant
abbrev pub bare_sub_byte : ℕ → ℕ
bare_sub_byte x = bit_xor (sub_byte x) SBOX_CONSTANT

-- ---- decryption

-- the byte that stands in the basis of decryption as x
unfoldable pub from_decryption : ℕ → ℕ
from_decryption x = by_halves FROM_DECRYPTION_LOW FROM_DECRYPTION_HIGH x

-- INVSBOX of that byte with the constant of SBOX added
abbrev pub inv_sub_of : ℕ → ℕ
inv_sub_of x = inv_sub_byte (bit_xor (from_decryption x) SBOX_CONSTANT)
