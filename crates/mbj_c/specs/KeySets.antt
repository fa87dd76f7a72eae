-- Sets of key sessions, and a manager that uses one.
use Rattle.std.specs.Prelude.{◌≡◌, ℕ, ◌<◌, nat_lt, Bool, true, ◌&&◌, List, [], ◌∷◌, length, map, Option, Some, None, IsSome, if◌then◌else◌}
use Rattle.mbj_types.specs.Aes.{is_key_size}
use Rattle.mbj_types.specs.declared.limits.TheConstants.{MAX_SESSIONS}
use Rattle.mbj_keys.specs.Sessions.{AreOf, Known, Session, entry_of, keys_of}
use Rattle.mbj_c.specs.declared.refusal.Refusal.{Refusal}
use Rattle.mbj_c.specs.declared.refusal.Refusal.TheVariants.{HasKeys, KeyLength, NoKeys, NoManager, TooManyKeys}
use Rattle.mbj_c.specs.declared.key_set.RawBytes.{RawBytes}
use Rattle.mbj_c.specs.State.{RangedState}

-- each key is one of AES
unfoldable pub are_keys : List (List ℕ) → Bool
are_keys [] = true
are_keys (k ∷ ks) = is_key_size (length k) && are_keys ks

-- the bytes of each
abbrev pub bytes_each : List RawBytes → List (List ℕ)
bytes_each keys = map (λ (k : RawBytes). k.bytes.now) keys

-- why no set is made of keys
abbrev pub keys_refusal : List (List ℕ) → Option Refusal
keys_refusal keys = if nat_lt MAX_SESSIONS (length keys) then Some TooManyKeys else (if are_keys keys then None else Some KeyLength)

-- why no set is made in a handle
abbrev pub set_refusal : Option (List Session) → List (List ℕ) → Option Refusal
set_refusal None keys = keys_refusal keys
set_refusal (Some set) keys = Some HasKeys

-- the handle has a set of these keys, in their order
abbrev pub IsSetOf : List (List ℕ) → Option (List Session) → Type 0
IsSetOf keys None = ⊥
IsSetOf keys (Some set) = keys_of set ≡ keys

-- why the set of one handle isn't put into another one, too
abbrev pub share_refusal : Option (List Session) → Option (List Session) → Option Refusal
share_refusal None other = Some NoKeys
share_refusal (Some set) None = None
share_refusal (Some set) (Some other) = Some HasKeys

-- why a manager doesn't use a set
abbrev pub uses_refusal : Option (List Session) → Option Refusal
uses_refusal None = Some NoKeys
uses_refusal (Some set) = None

abbrev pub use_refusal : Option RangedState → Option (List Session) → Option Refusal
use_refusal None set = Some NoManager
use_refusal (Some k) set = uses_refusal set

-- the manager uses what these notes know
abbrev pub using : List Known → RangedState → RangedState
using notes k = record k { notes = Some notes }

-- the notes know the entry of each session of the set
pub record KnowsAll (set : List Session) (notes : List Known) : Type 0 where
  pub are : AreOf set notes
  pub all : (n : ℕ) → n < length set → IsSome (entry_of notes n)

-- the manager uses the set, and all else of it stays
abbrev pub IsUsing : Option RangedState → Option (List Session) → Option RangedState → Type 0
IsUsing (Some k) (Some set) (Some after) = (notes : List Known) × KnowsAll set notes × (after ≡ using notes k)
IsUsing before set after = ⊥
