-- GMAC of data that comes in parts.
use Rattle.std.specs.Prelude.{◌≡◌, ℕ, nat_eq, Bool, List, [], ◌∷◌, ◌++◌}
use Rattle.mbj_types.specs.Aes.{aes}
use Rattle.mbj_types.specs.Blocks.{zero_block}
use Rattle.mbj_types.specs.Gcm.{gmac, pre_counter_block}
use Rattle.mbj_direct.specs.declared.gmac.GmacState.{GmacState}
use Rattle.mbj_direct.specs.Hashed.{IsHashed}

-- whether data can go on from it
abbrev pub is_gmac_state : GmacState → Bool
is_gmac_state s = nat_eq s.begun 1

-- all zero bytes, which are no state
abbrev pub blank_gmac_state : GmacState
blank_gmac_state = record {
  begun = 0;
  mask = zero_block;
  hash = record { subkey = zero_block; value = zero_block; last = zero_block; bytes = 0 };
}

-- under this key, with this IV, this data was taken
pub record HasTakenData (key iv aad : List ℕ) (s : GmacState) : Type 0 where
  pub mask : s.mask ≡ aes key (pre_counter_block (aes key zero_block) iv)
  pub subkey : s.hash.subkey ≡ aes key zero_block
  pub hashed : IsHashed [] aad s.hash

-- from s to t a part more is taken
abbrev pub TakesPart : List ℕ → GmacState → GmacState → Type 0
TakesPart p s t = (key iv aad : List ℕ) → HasTakenData key iv aad s → HasTakenData key iv (aad ++ p) t

-- parts one after another
abbrev pub TakesParts : List (List ℕ) → GmacState → GmacState → Type 0
TakesParts [] s t = s ≡ t
TakesParts (p ∷ ps) s t = (m : GmacState) × (TakesPart p s m × TakesParts ps m t)

-- at s the data's tag is this one
abbrev pub GivesTag : GmacState → List ℕ → Type 0
GivesTag s tag = (key iv aad : List ℕ) → HasTakenData key iv aad s → tag ≡ gmac (aes key) iv aad
