-- GCM of a text that comes in parts.
use Rattle.std.specs.Prelude.{◌≡◌, ℕ, nat_lt, ◌&&◌, Bool, true, false, List, [], ◌∷◌, ◌++◌, length, take, drop, replicate, if◌then◌else◌}
use Rattle.mbj_types.specs.Aes.{aes, is_key_size}
use Rattle.mbj_types.specs.Blocks.{zero_block, filled_blocks}
use Rattle.mbj_types.specs.Gcm.{gcm_text, pre_counter_block}
use Rattle.mbj_direct.specs.declared.parts.GcmState.{GcmState}
use Rattle.mbj_direct.specs.Hashed.{IsHashed}

-- the key that a state holds
abbrev pub key_of : GcmState → List ℕ
key_of s = take s.key_bytes s.key

-- the number of a direction in a state
abbrev pub dir_number : Bool → ℕ
dir_number true = 0
dir_number false = 1

-- whether a text can go on from it
abbrev pub is_gcm_state : GcmState → Bool
is_gcm_state s = is_key_size s.key_bytes && nat_lt s.dir 2

-- all zero bytes, which are no state
abbrev pub blank_state : GcmState
blank_state = record {
  key = replicate 32 0;
  key_bytes = 0;
  dir = 0;
  pre_counter = replicate 16 0;
  aad_bytes = 0;
  hash = record { subkey = replicate 16 0; value = replicate 16 0; last = replicate 16 0; bytes = 0 };
}

-- under this key, with this IV and this additional data, the text was taken, which is sealed or opened
pub record HasTaken (key iv aad : List ℕ) (sealing : Bool) (text : List ℕ) (s : GcmState) : Type 0 where
  pub held : key_of s ≡ key
  pub dir : s.dir ≡ dir_number sealing
  pub pre_counter : s.pre_counter ≡ pre_counter_block (aes key zero_block) iv
  pub aad_size : s.aad_bytes ≡ length aad
  pub subkey : s.hash.subkey ≡ aes key zero_block
  pub hashed : IsHashed (filled_blocks aad) (if sealing then gcm_text (aes key) iv text else text) s.hash

-- what the parts of a text become, one after another, behind the text so far
abbrev pub part_texts : (List ℕ → List ℕ) → List ℕ → List ℕ → List (List ℕ) → List (List ℕ)
part_texts e iv so_far [] = []
part_texts e iv so_far (p ∷ ps) = drop (length so_far) (gcm_text e iv (so_far ++ p)) ∷ part_texts e iv (so_far ++ p) ps
