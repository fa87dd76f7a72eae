-- Keys side by side: in each lane the schedule that was put there, or none.
use Rattle.std.specs.Prelude.{ℕ, ◌-◌, ◌/◌, ◌<◌, List, [], length, replicate, slice_set, slice_index_or, Option, Some, None, IsSome, unwrap_or}
use Rattle.mbj_types.specs.declared.kind.TheConstants.{AES_LANES}

pub record KeyLanes : Type 0 where
  -- the rounds of each key
  pub rounds : ℕ
  pub lanes : List (Option (List ℕ))

-- no lane was put
abbrev pub no_keys : ℕ → KeyLanes
no_keys rounds = record { rounds = rounds; lanes = replicate AES_LANES None }

-- the schedule w was put in every lane
abbrev pub same_keys : List ℕ → KeyLanes
same_keys w = record { rounds = length w / 16 - 1; lanes = replicate AES_LANES (Some w) }

-- the same keys, but with the schedule w in that lane
abbrev pub with_key : KeyLanes → ℕ → List ℕ → KeyLanes
with_key keys lane w = record { rounds = keys.rounds; lanes = slice_set keys.lanes lane (Some w) }

-- every lane was put
abbrev pub IsFull : KeyLanes → Type 0
IsFull keys = (i : ℕ) → i < AES_LANES → IsSome (slice_index_or keys.lanes i None)

-- the schedule that was put in lane i
abbrev pub schedule_at : KeyLanes → ℕ → List ℕ
schedule_at keys i = unwrap_or (slice_index_or keys.lanes i None) []
