-- GCM (SP 800-38D). The block cipher is the argument e.
use Rattle.std.specs.Prelude.{ℕ, ◌+◌, ◌*◌, ◌%◌, ◌^◌, Bool, ◌&&◌, nat_eq, nat_le, nat_lt, List, [], ◌∷◌, ◌++◌, length, take, drop, replicate, if◌then◌else◌}
use Rattle.std.specs.List.{concat}
use Rattle.std.specs.Int.{w32, w64, to_be_bytes, from_be_bytes}
use Rattle.mbj_types.specs.Blocks.{xor_lists, blocks, zero_block, filled_blocks}
use Rattle.mbj_types.specs.Ghash.{ghash}
use Rattle.mbj_types.specs.declared.limits.gcm.TheConstants.{MAX_AAD_BYTES, MAX_IV_BYTES}

-- 6.2: the last 4 bytes, as a number, rise by 1 modulo 2^32
unfoldable pub inc32 : List ℕ → List ℕ
inc32 b = take 12 b ++ to_be_bytes w32 ((from_be_bytes w32 (drop 12 b) + 1) % 2 ^ 32)

-- 6.5, GCTR from the counter block j on: each block is xored with the enciphered counter block, the last one cut
abbrev pub gctr : (List ℕ → List ℕ) → List ℕ → List (List ℕ) → List (List ℕ)
gctr e j [] = []
gctr e j (p ∷ ps) = xor_lists p (e j) ∷ gctr e (inc32 j) ps

-- the bit length of a part of n bytes, in 8 bytes; modulo 2^64, far above what the standard allows
abbrev pub bit_length : ℕ → List ℕ
bit_length n = to_be_bytes w64 (8 * n % 2 ^ 64)

-- 7.1, step 2: the counter block before the first one, h being the hash subkey. An IV of 12 bytes is followed by the number 1
-- in 4 bytes; one of another length is hashed, its last block filled with zero bytes, and behind it 8 zero bytes and its bit
-- length
unfoldable pub pre_counter_block : List ℕ → List ℕ → List ℕ
pre_counter_block h iv =
    if nat_eq (length iv) 12 then iv ++ 0 ∷ 0 ∷ 0 ∷ 1 ∷ []
    else ghash h (filled_blocks iv ++ (replicate 8 0 ++ bit_length (length iv)) ∷ [])

-- 7.1, step 3: the text is xored with the key stream in both directions
abbrev pub gcm_text : (List ℕ → List ℕ) → List ℕ → List ℕ → List ℕ
gcm_text e iv text = concat (gctr e (inc32 (pre_counter_block (e zero_block) iv)) (blocks text))

-- 7.1, steps 4 to 6: the 16 bytes of tag over aad and ciphertext
abbrev pub gcm_tag : (List ℕ → List ℕ) → List ℕ → List ℕ → List ℕ → List ℕ
gcm_tag e iv aad ciphertext =
    let lengths = bit_length (length aad) ++ bit_length (length ciphertext) in
    xor_lists (e (pre_counter_block (e zero_block) iv)) (ghash (e zero_block) (filled_blocks aad ++ filled_blocks ciphertext ++ lengths ∷ []))

-- 7.1 and 7.2: the other text, and the tag over the ciphertext, which is that text if the text is sealed, else the given one
abbrev pub gcm : (List ℕ → List ℕ) → List ℕ → List ℕ → List ℕ → Bool → List ℕ × List ℕ
gcm e iv aad text sealing = (gcm_text e iv text, gcm_tag e iv aad (if sealing then gcm_text e iv text else text))

-- 3.1: GMAC is the tag over data alone, with no text
abbrev pub gmac : (List ℕ → List ℕ) → List ℕ → List ℕ → List ℕ
gmac e iv aad = gcm_tag e iv aad []

-- ---- what GCM and GMAC take here, in bytes (5.2.1): an IV, additional data, and a tag, which is cut from 16

abbrev pub takes_iv : ℕ → Bool
takes_iv n = nat_lt 0 n && nat_le n MAX_IV_BYTES

abbrev pub takes_aad : ℕ → Bool
takes_aad n = nat_le n MAX_AAD_BYTES

abbrev pub takes_tag : ℕ → Bool
takes_tag n = nat_lt 0 n && nat_le n 16
