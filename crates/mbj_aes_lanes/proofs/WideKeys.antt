-- Round keys of wide states, as parts of the schedule in a lane.
use Rattle.std.proofs.Common.{◌≡◌, ◌≢◌, ℕ, nat_eq, Bool, true, false, if◌then◌else◌, ◌+◌, ◌-◌, ◌*◌, ◌/◌, ◌^◌, ◌<◌, ◌≤◌, List, [], ◌∷◌, length, replicate, map, drop, refl, sym, ap, ap₂, ◌∙◌, arith, eq-eqb, length-drop}
use Rattle.std.proofs.lemmas.Bool.{ne_eqb}
use Rattle.std.proofs.lemmas.List.{length-map, length-take-le}
use Rattle.mbj_types.specs.Aes.{round_key}
use Rattle.mbj_types.specs.Blocks.{xor_lists}
use Rattle.mbj_types.specs.Lanes.{lane_of}
use Rattle.mbj_types.proofs.LaneLists.{length-lane_of}
use Rattle.mbj_aes.specs.declared.tables.TheConstants.{SBOX_CONSTANT}
use Rattle.mbj_aes.specs.Tower.{from_tower}
use Rattle.mbj_aes.proofs.Sums.{xor_twice}
use Rattle.mbj_aes.proofs.TowerCases.{from_tower-xor}
use Rattle.mbj_aes_lanes.proofs.LaidSchedules.{length-schedule_with, round_key-schedule_with, schedule_with-each}
use Rattle.mbj_aes_lanes.specs.declared.wide.state.State.{State}
use Rattle.mbj_aes_lanes.specs.Inside.Wide.{state_lane, tower_block}
use Rattle.mbj_aes_lanes.specs.Inside.WideKeys.{with_constant, key_from, key_in, schedule_in}

-- the constant that is added twice is gone
pub with_constant-twice : (b : List ℕ) → with_constant (with_constant b) ≡ b
with_constant-twice [] = refl
with_constant-twice (x ∷ b) = ap₂ (λ y ys. y ∷ ys) (xor_twice x SBOX_CONSTANT) (with_constant-twice b)

module _ {V : Type 0} (lane : V → ℕ → ℕ) where
  pub length-state_lane : (s : State V) (i : ℕ) → length (state_lane lane s i) ≡ 16
  unfolding state_lane
  length-state_lane s i = refl

  pub constant-added : (s : State V) (i : ℕ) → xor_lists (state_lane lane s i) (replicate 16 SBOX_CONSTANT) ≡ with_constant (state_lane lane s i)
  unfolding state_lane
  constant-added s i = refl

-- a sum of states in the tower's basis
pub tower_block-sum : {V : Type 0} (lane : V → ℕ → ℕ) → ((x : V) (i : ℕ) → lane x i < 2 ^ 8) → (s key result : State V) (i : ℕ)
    → state_lane lane result i ≡ xor_lists (state_lane lane s i) (state_lane lane key i)
    → tower_block lane result i ≡ xor_lists (tower_block lane s i) (tower_block lane key i)
unfolding state_lane
tower_block-sum lane fits s key result i e =
    let at = λ (x y : _). from_tower-xor (lane x i) (lane y i) (fits x i) (fits y i) in
    ap (map from_tower) e
    ∙ (λ j.
    at s.0.0 key.0.0 j ∷ at s.0.1 key.0.1 j ∷ at s.0.2 key.0.2 j ∷ at s.0.3 key.0.3 j
    ∷ at s.1.0 key.1.0 j ∷ at s.1.1 key.1.1 j ∷ at s.1.2 key.1.2 j ∷ at s.1.3 key.1.3 j
    ∷ at s.2.0 key.2.0 j ∷ at s.2.1 key.2.1 j ∷ at s.2.2 key.2.2 j ∷ at s.2.3 key.2.3 j
    ∷ at s.3.0 key.3.0 j ∷ at s.3.1 key.3.1 j ∷ at s.3.2 key.3.2 j ∷ at s.3.3 key.3.3 j ∷ [])

-- ---- the keys of the rounds

module _ {V : Type 0} (lane : V → ℕ → ℕ) (n r : ℕ) (key : State V) (i : ℕ) where
  pub key_in-first : r ≡ 0 → key_in lane n r key i ≡ tower_block lane key i
  unfolding key_in
  key_in-first e = rw (eq-eqb r 0 e) refl

  pub key_in-between : r ≢ 0 → r ≢ n → key_in lane n r key i ≡ with_constant (tower_block lane key i)
  unfolding key_in
  key_in-between later before = rw (ne_eqb r 0 later, ne_eqb r n before) refl

  pub key_in-last : r ≢ 0 → r ≡ n → key_in lane n r key i ≡ with_constant (state_lane lane key i)
  unfolding key_in
  key_in-last later e = rw (ne_eqb r 0 later, eq-eqb r n e) refl

length-key_from : (n r : ℕ) (b : List ℕ) → length b ≡ 16 → length (key_from n r b) ≡ 16
length-key_from n r b size = sized (nat_eq r 0) (nat_eq r n)
  where
    plain : length (map from_tower b) ≡ 16
    plain = length-map b from_tower ∙ size

    sized : (first last : Bool) → length (if first then map from_tower b else with_constant (if last then b else map from_tower b)) ≡ 16
    sized true last = plain
    sized false true = length-map b _ ∙ size
    sized false false = length-map (map from_tower b) _ ∙ plain

-- ---- schedules

pub length-round_key : (b : List ℕ) (r : ℕ) → 16 * r + 16 ≤ length b → length (round_key b r) ≡ 16
length-round_key b r h = length-take-le 16 (drop (16 * r) b) (omega (arith, length-drop (16 * r) b))

module _ {V : Type 0} (lane : V → ℕ → ℕ) (words : List V) (i n : ℕ) (whole : length words ≡ 16 * (n + 1)) where
  rounds : length words / 16 - 1 ≡ n
  rounds = omega arith

  sizes : (r : ℕ) → r ≤ n → length (key_from n r (round_key (lane_of lane words i) r)) ≡ 16
  sizes r h = length-key_from n r _ (length-round_key (lane_of lane words i) r (omega (arith, length-lane_of lane words i)))

  -- round key r of the schedule
  pub round_key-schedule_in : (r : ℕ) → r ≤ n → round_key (schedule_in lane words i) r ≡ key_from n r (round_key (lane_of lane words i) r)
  unfolding schedule_in
  round_key-schedule_in r h = rw rounds (round_key-schedule_with (λ r. key_from n r (round_key (lane_of lane words i) r)) n r sizes h)

  pub length-schedule_in : length (schedule_in lane words i) ≡ 16 * (n + 1)
  unfolding schedule_in
  length-schedule_in = rw rounds (length-schedule_with (λ r. key_from n r (round_key (lane_of lane words i) r)) n sizes)

  -- the schedule whose round keys they are
  pub schedule_in-each : (w : List ℕ) → length w ≡ 16 * (n + 1)
      → ((r : ℕ) → r ≤ n → key_from n r (round_key (lane_of lane words i) r) ≡ round_key w r) → schedule_in lane words i ≡ w
  unfolding schedule_in
  schedule_in-each w size each = rw rounds (schedule_with-each (λ r. key_from n r (round_key (lane_of lane words i) r)) n w size each)

  -- the round key that a state of the lane words is
  pub key_in-laid : (key : State V) (r : ℕ) → r ≤ n → state_lane lane key i ≡ round_key (lane_of lane words i) r
      → key_in lane n r key i ≡ round_key (schedule_in lane words i) r
  unfolding key_in
  key_in-laid key r h e = ap (key_from n r) e ∙ sym (round_key-schedule_in r h)
