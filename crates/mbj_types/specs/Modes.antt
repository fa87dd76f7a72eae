-- CBC and CTR (SP 800-38A) on lists of blocks. The block cipher is the argument e, or d for its inverse.
use Rattle.std.specs.Prelude.{ℕ, ◌+◌, ◌%◌, ◌^◌, ◌==◌, ◌&&◌, ◌||◌, Bool, nat_eq, nat_lt, List, [], ◌∷◌, ◌++◌, length, if◌then◌else◌}
use Rattle.std.specs.List.{concat}
use Rattle.std.specs.Int.{w128, to_be_bytes, from_be_bytes}
use Rattle.mbj_types.specs.Blocks.{xor_lists, blocks}

-- 6.2, CBC encryption: each block is xored with the ciphertext before it, the first with the IV, and enciphered
abbrev pub cbc : (List ℕ → List ℕ) → List ℕ → List (List ℕ) → List (List ℕ)
cbc e c [] = []
cbc e c (p ∷ ps) = e (xor_lists p c) ∷ cbc e (e (xor_lists p c)) ps

-- 6.2, CBC decryption: each block is deciphered, and xored with the ciphertext before it
abbrev pub uncbc : (List ℕ → List ℕ) → List ℕ → List (List ℕ) → List (List ℕ)
uncbc d c [] = []
uncbc d c (x ∷ xs) = xor_lists (d x) c ∷ uncbc d x xs

-- 6.5, CTR from the counter t on: each block is xored with the enciphered counter, the last one cut to the block; counters are
-- numbers modulo 2^128 that rise by 1 (appendix B.1)
abbrev pub ctr_blocks : (List ℕ → List ℕ) → ℕ → List (List ℕ) → List (List ℕ)
ctr_blocks e t [] = []
ctr_blocks e t (p ∷ ps) = xor_lists p (e (to_be_bytes w128 t)) ∷ ctr_blocks e ((t + 1) % 2 ^ 128) ps

-- the first counter: an IV of 16 bytes is one, and one of 12 bytes is followed by the block number 1 in 4 bytes (appendix B.2; RFC 3686, 4)
abbrev pub first_counter : List ℕ → ℕ
first_counter iv = from_be_bytes w128 (if nat_eq (length iv) 12 then iv ++ 0 ∷ 0 ∷ 0 ∷ 1 ∷ [] else iv)

abbrev pub cbc_text : (List ℕ → List ℕ) → List ℕ → List ℕ → List ℕ
cbc_text e iv text = concat (cbc e iv (blocks text))

abbrev pub uncbc_text : (List ℕ → List ℕ) → List ℕ → List ℕ → List ℕ
uncbc_text d iv text = concat (uncbc d iv (blocks text))

abbrev pub ctr_text : (List ℕ → List ℕ) → List ℕ → List ℕ → List ℕ
ctr_text e iv text = concat (ctr_blocks e (first_counter iv) (blocks text))

-- ---- what CBC and CTR take, in bytes: an IV, and a text

abbrev pub cbc_takes_iv : ℕ → Bool
cbc_takes_iv n = n == 16

abbrev pub cbc_takes_text : ℕ → Bool
cbc_takes_text n = nat_lt 0 n && n % 16 == 0

abbrev pub ctr_takes_iv : ℕ → Bool
ctr_takes_iv n = n == 12 || n == 16

abbrev pub ctr_takes_text : ℕ → Bool
ctr_takes_text n = nat_lt 0 n
