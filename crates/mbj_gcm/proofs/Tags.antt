-- The tag by what the first batch gave.
use Rattle.std.proofs.Common.{◌≡◌, ℕ, List, [], ◌∷◌, ◌++◌, length, get_or, ap, ap₂, ◌∙◌}
use Rattle.mbj_types.specs.Aes.{encipher}
use Rattle.mbj_types.specs.Blocks.{xor_lists, zero_block, filled_blocks}
use Rattle.mbj_types.specs.Ghash.{ghash}
use Rattle.mbj_types.specs.Gcm.{bit_length, gcm_tag, pre_counter_block}
use Rattle.mbj_gcm.specs.Inside.First.{AreFirst}

-- the blocks that are hashed
abbrev pub hashed : List ℕ → List ℕ → List (List ℕ)
hashed aad ciphertext = filled_blocks aad ++ filled_blocks ciphertext ++ (bit_length (length aad) ++ bit_length (length ciphertext)) ∷ []

-- under the schedule w, whose text key is k
pub tag-first : (k w t iv aad ciphertext : List ℕ) (n : ℕ) (outputs : List (List ℕ)) → k ≡ w
    → t ≡ pre_counter_block (encipher k zero_block) iv → AreFirst (encipher k) t n outputs
    → xor_lists (get_or outputs 1 []) (ghash (get_or outputs 0 []) (hashed aad ciphertext)) ≡ gcm_tag (encipher w) iv aad ciphertext
tag-first k w t iv aad ciphertext n outputs same counter first =
    ap₂ (λ m h. xor_lists m (ghash h (hashed aad ciphertext))) (first.tag_mask ∙ ap (encipher k) counter) first.subkey
    ∙ ap (λ v. gcm_tag (encipher v) iv aad ciphertext) same
