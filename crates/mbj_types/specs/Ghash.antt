-- GHASH (SP 800-38D) on blocks of 16 bytes.
use Rattle.std.specs.Prelude.{ℕ, Bool, List, [], ◌∷◌}
use Rattle.std.specs.Int.{w128, to_be_bytes, from_be_bytes}
use Rattle.mbj_types.specs.Blocks.{xor_lists, zero_block}
use Rattle.mbj_types.specs.Field.{bits, number, product}

-- a block as an element of the field: its leftmost bit is the coefficient of x^0 (6.3)
abbrev pub element : List ℕ → List Bool
element b = bits 128 (from_be_bytes w128 b)

-- the product of two blocks (6.3)
unfoldable pub block_product : List ℕ → List ℕ → List ℕ
block_product x h = to_be_bytes w128 (number (product (element x) (element h)))

-- powers of a hash subkey
abbrev pub square : List ℕ → List ℕ
square h = block_product h h

abbrev pub cube : List ℕ → List ℕ
cube h = block_product (square h) h

-- 6.4, steps 2 and 3, from the value y on
abbrev pub ghash_from : List ℕ → List ℕ → List (List ℕ) → List ℕ
ghash_from h y [] = y
ghash_from h y (x ∷ xs) = ghash_from h (block_product (xor_lists y x) h) xs

-- 6.4: GHASH of blocks under h
abbrev pub ghash : List ℕ → List (List ℕ) → List ℕ
ghash h xs = ghash_from h zero_block xs
