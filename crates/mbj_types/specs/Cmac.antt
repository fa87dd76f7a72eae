-- CMAC (SP 800-38B). The block cipher is the argument e.
use Rattle.std.specs.Prelude.{ℕ, ◌-◌, ◌*◌, ◌/◌, ◌%◌, ◌^◌, ◌==◌, ◌&&◌, ◌||◌, Bool, nat_eq, nat_le, nat_lt, List, [], ◌∷◌, ◌++◌, length, replicate, bit_xor, if◌then◌else◌}
use Rattle.std.specs.Int.{w128, to_be_bytes, from_be_bytes}
use Rattle.mbj_types.specs.Blocks.{xor_lists, blocks, zero_block, last_or}
use Rattle.mbj_types.specs.Modes.{cbc}

-- 6.1: a block as a string of 128 bits shifted left by one, and 87 xored into it if the bit shifted out was 1
abbrev pub doubled_number : ℕ → ℕ
doubled_number v = if nat_eq (v / 2 ^ 127) 1 then bit_xor (v * 2 % 2 ^ 128) 0x87 else v * 2 % 2 ^ 128

abbrev pub doubled : List ℕ → List ℕ
doubled b = to_be_bytes w128 (doubled_number (from_be_bytes w128 b))

-- the subkeys: K1 is the enciphered zero block doubled, and K2 is K1 doubled
abbrev pub first_subkey : (List ℕ → List ℕ) → List ℕ
first_subkey e = doubled (e zero_block)

abbrev pub second_subkey : (List ℕ → List ℕ) → List ℕ
second_subkey e = doubled (first_subkey e)

-- 6.2, step 2: the empty message is one empty block
abbrev pub message_blocks : List ℕ → List (List ℕ)
message_blocks [] = [] ∷ []
message_blocks (x ∷ m) = blocks (x ∷ m)

-- 6.2, step 4: the last block is xored with K1 if it is whole, else filled by a bit 1 and zeros and xored with K2
abbrev pub closed_block : (List ℕ → List ℕ) → List ℕ → List ℕ
closed_block e p =
    if nat_eq (length p) 16 then xor_lists p (first_subkey e)
    else xor_lists (p ++ 0x80 ∷ replicate (15 - length p) 0) (second_subkey e)

-- the blocks with the last one so changed
abbrev pub closed : (List ℕ → List ℕ) → List (List ℕ) → List (List ℕ)
closed e [] = []
closed e (p ∷ []) = closed_block e p ∷ []
closed e (p ∷ q ∷ ps) = p ∷ closed e (q ∷ ps)

-- 6.2, steps 5 to 7: the last block of CBC over these blocks, from the zero block on
abbrev pub cmac : (List ℕ → List ℕ) → List ℕ → List ℕ
cmac e m = last_or zero_block (cbc e zero_block (closed e (message_blocks m)))

-- ---- what CMAC takes here, in bytes: a key, and a tag, which is cut from 16

abbrev pub takes_key : ℕ → Bool
takes_key n = n == 16 || n == 32

abbrev pub takes_tag : ℕ → Bool
takes_tag n = nat_lt 0 n && nat_le n 16
