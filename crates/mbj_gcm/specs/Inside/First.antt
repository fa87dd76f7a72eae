-- The first batch for a text: the hash subkey, the mask of the tag, and the key stream of the text's first blocks.
use Rattle.std.specs.Prelude.{◌≡◌, ℕ, ◌+◌, ◌/◌, ◌<◌, List, [], slice_index_or}
use Rattle.mbj_types.specs.Blocks.{zero_block}
use Rattle.mbj_aes_lanes.specs.declared.narrow.by_fours.TheConstants.{BATCH_BLOCKS}
use Rattle.mbj_gcm.specs.Incremented.{incremented}

-- the output blocks that e enciphers for a text of len bytes, t being the counter block before its first one
pub record AreFirst (e : List ℕ → List ℕ) (t : List ℕ) (len : ℕ) (outputs : List (List ℕ)) : Type 0 where
  pub subkey : slice_index_or outputs 0 [] ≡ e zero_block
  pub tag_mask : slice_index_or outputs 1 [] ≡ e t
  pub stream : (j : ℕ) → j < (len + 15) / 16 → j + 2 < BATCH_BLOCKS → slice_index_or outputs (j + 2) [] ≡ e (incremented t (j + 1))
