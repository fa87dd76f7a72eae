-- Lists of bytes, and their blocks of 16 bytes.
use Rattle.std.specs.Prelude.{ℕ, zero, suc, ◌+◌, ◌-◌, ◌/◌, List, [], ◌∷◌, ◌++◌, length, take, drop, replicate, map, bit_xor}

-- byte by byte, as far as the shorter list goes
abbrev pub xor_lists : List ℕ → List ℕ → List ℕ
xor_lists [] ys = []
xor_lists (x ∷ xs) [] = []
xor_lists (x ∷ xs) (y ∷ ys) = bit_xor x y ∷ xor_lists xs ys

-- the first n blocks
abbrev pub first_blocks : ℕ → List ℕ → List (List ℕ)
first_blocks zero text = []
first_blocks (suc n) text = take 16 text ∷ first_blocks n (drop 16 text)

-- a text cut into blocks; the last one may be shorter, and the empty text has none
unfoldable pub blocks : List ℕ → List (List ℕ)
blocks text = first_blocks ((length text + 15) / 16) text

abbrev pub zero_block : List ℕ
zero_block = replicate 16 0

-- a block with zero bytes behind it, up to 16
abbrev pub filled_block : List ℕ → List ℕ
filled_block p = p ++ replicate (16 - length p) 0

-- the blocks of a part, the last one filled with zero bytes; an empty part has none
abbrev pub filled_blocks : List ℕ → List (List ℕ)
filled_blocks part = map filled_block (blocks part)

-- the last block, or c if there is none
abbrev pub last_or : List ℕ → List (List ℕ) → List ℕ
last_or c [] = c
last_or c (x ∷ xs) = last_or x xs
