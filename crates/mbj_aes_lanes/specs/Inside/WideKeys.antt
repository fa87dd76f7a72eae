-- Round keys as the rounds of wide states take them.
use Rattle.std.specs.Prelude.{◌≡◌, ℕ, ◌+◌, ◌-◌, ◌*◌, ◌/◌, ◌<◌, nat_eq, Bool, List, [], ◌∷◌, length, map, slice_index_or, take, Option, Some, None, bit_xor, if◌then◌else◌}
use Rattle.mbj_types.specs.Aes.{round_key, key_schedule}
use Rattle.mbj_types.specs.declared.kind.TheConstants.{AES_LANES}
use Rattle.mbj_types.specs.Lanes.{lane_at, lane_of}
use Rattle.mbj_aes.specs.declared.tables.TheConstants.{SBOX_CONSTANT}
use Rattle.mbj_aes.specs.Bytes.{IsBytes}
use Rattle.mbj_aes.specs.Tower.{from_tower}
use Rattle.mbj_aes_lanes.specs.declared.wide.state.State.{State}
use Rattle.mbj_aes_lanes.specs.KeyBytes.{IsKeyArray, key_of_array}
use Rattle.mbj_aes_lanes.specs.Inside.LaidKeys.{schedule_with}
use Rattle.mbj_aes_lanes.specs.Inside.Wide.{state_lane}

-- the constant of the S-box added to each byte
abbrev pub with_constant : List ℕ → List ℕ
with_constant b = map (λ x. bit_xor x SBOX_CONSTANT) b

-- the round key r of n rounds that the bytes b stand for: all but the last are in the tower's basis, and all but the first have the
-- constant added, since the S-box leaves it out
abbrev pub key_from : ℕ → ℕ → List ℕ → List ℕ
key_from n r b = if nat_eq r 0 then map from_tower b else with_constant (if nat_eq r n then b else map from_tower b)

-- the one that a state stands for in lane i
unfoldable pub key_in : {V : Type 0} → (V → ℕ → ℕ) → ℕ → ℕ → State V → ℕ → List ℕ
key_in lane n r key i = key_from n r (state_lane lane key i)

-- the schedule of n rounds whose round keys the bytes b stand for, 16 for each
abbrev pub schedule_from : ℕ → List ℕ → List ℕ
schedule_from n b = schedule_with (λ r. key_from n r (round_key b r)) n

-- the one that lane words stand for in lane i
unfoldable pub schedule_in : {V : Type 0} → (V → ℕ → ℕ) → List V → ℕ → List ℕ
schedule_in lane words i = schedule_from (length words / 16 - 1) (lane_of lane words i)

-- the bytes of a lane begin with a key of nk words
pub record IsLaneKey (nk : ℕ) (key xs : List ℕ) : Type 0 where
  pub size : length key ≡ 4 * nk
  pub bytes : IsBytes key
  pub first : take (4 * nk) xs ≡ key

-- ---- what the lanes hold of which some were put

-- the lanes have keys of n rounds, and these are their round keys
pub record AreExpanded (n : ℕ) (keys round_keys : List (List ℕ)) : Type 0 where
  pub lanes : length keys ≡ AES_LANES
  pub room : length round_keys ≡ 240
  pub arrays : (i : ℕ) → i < AES_LANES → IsKeyArray n (slice_index_or keys i [])
  pub schedules : (i : ℕ) → i < AES_LANES
      → schedule_in (lane_at 8) (take (16 * (n + 1)) round_keys) i ≡ key_schedule (key_of_array n (slice_index_or keys i []))

-- the schedule in each lane that was put
unfoldable pub held_lanes : ℕ → List (List ℕ) → List Bool → List (Option (List ℕ))
held_lanes n [] put = []
held_lanes n (key ∷ keys) [] = []
held_lanes n (key ∷ keys) (here ∷ put) = (if here then Some (key_schedule (key_of_array n key)) else None) ∷ held_lanes n keys put
