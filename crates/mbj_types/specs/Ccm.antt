-- CCM (SP 800-38C) with the formatting and the counter blocks of its appendix A. The block cipher is the argument e.
use Rattle.std.specs.Prelude.{ℕ, ◌+◌, ◌-◌, ◌*◌, ◌/◌, ◌%◌, ◌==◌, ◌&&◌, Bool, nat_le, List, [], ◌∷◌, ◌++◌, length, if◌then◌else◌}
use Rattle.std.specs.List.{concat}
use Rattle.std.specs.Int.{bytes_high_first}
use Rattle.mbj_types.specs.Blocks.{xor_lists, blocks, zero_block, filled_blocks, last_or}
use Rattle.mbj_types.specs.Modes.{cbc}
use Rattle.mbj_types.specs.declared.limits.ccm.TheConstants.{MAX_CCM_AAD_BYTES}

-- A.1: q, in how many bytes the length of the text is written: 15 less those of the nonce, which has 7 to 13
abbrev pub length_bytes : List ℕ → ℕ
length_bytes nonce = 15 - length nonce

-- ---- A.2: what is authenticated

-- A.2.1: the bit of the flags that says whether there is additional data
abbrev pub data_flag : List ℕ → ℕ
data_flag [] = 0
data_flag (x ∷ aad) = 64

-- A.2.1: the first block is the flags with the data's bit, the tag's length and the length of the text's length; the nonce; and
-- the text's length
abbrev pub first_block : List ℕ → List ℕ → ℕ → ℕ → List ℕ
first_block nonce aad text_len tag_len =
    (data_flag aad + 8 * ((tag_len - 2) / 2) + (length_bytes nonce - 1)) ∷ nonce ++ bytes_high_first (length_bytes nonce) text_len

-- A.2.2: the additional data with its length in 2 bytes before it, as data of fewer than 65,280 bytes has it; none has no length
abbrev pub encoded_data : List ℕ → List ℕ
encoded_data [] = []
encoded_data (x ∷ aad) = bytes_high_first 2 (length (x ∷ aad)) ++ x ∷ aad

-- A.2: the first block, and the blocks of the data and of the text, of which each part is filled with zero bytes
abbrev pub ccm_blocks : List ℕ → List ℕ → List ℕ → ℕ → List (List ℕ)
ccm_blocks nonce aad text tag_len =
    first_block nonce aad (length text) tag_len ∷ filled_blocks (encoded_data aad) ++ filled_blocks text

-- 6.1, steps 2 and 3: the last block of CBC over them, from the zero block on
unfoldable pub ccm_mac : (List ℕ → List ℕ) → List ℕ → List ℕ → List ℕ → ℕ → List ℕ
ccm_mac e nonce aad text tag_len = last_or zero_block (cbc e zero_block (ccm_blocks nonce aad text tag_len))

-- ---- the text and the tag

-- A.3: counter block i
unfoldable pub counter_block : List ℕ → ℕ → List ℕ
counter_block nonce i = (length_bytes nonce - 1) ∷ nonce ++ bytes_high_first (length_bytes nonce) i

-- 6.1, steps 5 to 8: each block is xored with its enciphered counter block, the last one cut; the first one's is counter block i
abbrev pub counted : (List ℕ → List ℕ) → List ℕ → ℕ → List (List ℕ) → List (List ℕ)
counted e nonce i [] = []
counted e nonce i (p ∷ ps) = xor_lists p (e (counter_block nonce i)) ∷ counted e nonce (i + 1) ps

-- the text is xored from counter block 1 on, in both directions
abbrev pub ccm_text : (List ℕ → List ℕ) → List ℕ → List ℕ → List ℕ
ccm_text e nonce text = concat (counted e nonce 1 (blocks text))

-- what masks the tag: the enciphered counter block 0
abbrev pub ccm_mask : (List ℕ → List ℕ) → List ℕ → List ℕ
ccm_mask e nonce = e (counter_block nonce 0)

-- 6.1 and 6.2: the other text, and the whole tag, of which the tag is the leftmost bytes. The tag is over the plaintext, which is
-- the given text if it is sealed, else what that is deciphered to
abbrev pub ccm : (List ℕ → List ℕ) → List ℕ → List ℕ → List ℕ → ℕ → Bool → List ℕ × List ℕ
ccm e nonce aad text tag_len sealing =
    let plaintext = if sealing then text else ccm_text e nonce text in
    (ccm_text e nonce text, xor_lists (ccm_mac e nonce aad plaintext tag_len) (ccm_mask e nonce))

-- ---- what CCM takes, in bytes: a nonce (A.1), additional data whose length is written in 2 bytes (A.2.2), and a tag (A.1)

abbrev pub takes_nonce : ℕ → Bool
takes_nonce n = nat_le 7 n && nat_le n 13

abbrev pub takes_aad : ℕ → Bool
takes_aad n = nat_le n MAX_CCM_AAD_BYTES

abbrev pub takes_tag : ℕ → Bool
takes_tag n = nat_le 4 n && nat_le n 16 && n % 2 == 0
