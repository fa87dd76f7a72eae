-- Words and blocks that stand in the tower's basis.
use Rattle.std.proofs.Common.{◌≡◌, ℕ, List, ◌++◌, length, map, take, drop, replicate, refl, sym, ap, ap₂, ◌∙◌}
use Rattle.std.proofs.lemmas.List.{length-map, map-append, take-map, drop-map}
use Rattle.mbj_types.specs.Blocks.{xor_lists}
use Rattle.mbj_types.specs.Lanes.{lane_of}
use Rattle.mbj_aes.specs.declared.tables.TheConstants.{SBOX_CONSTANT}
use Rattle.mbj_aes.specs.Tower.{from_tower}
use Rattle.mbj_aes_lanes.specs.declared.wide.key_states.TheConstants.{SBOX_CONSTANT_IN_TOWER}
use Rattle.mbj_aes_lanes.specs.declared.wide.state.State.{State}
use Rattle.mbj_aes_lanes.specs.Inside.Wide.{state_lane, tower_block, tower_lane}
use Rattle.mbj_aes_lanes.specs.Inside.WideKeys.{with_constant}

pub from_tower-constant : from_tower SBOX_CONSTANT_IN_TOWER ≡ SBOX_CONSTANT
unfolding from_tower
from_tower-constant = refl

pub from_tower-zero : from_tower 0 ≡ 0
unfolding from_tower
from_tower-zero = refl

-- a part of what is mapped
pub map-part : (f : ℕ → ℕ) (n at : ℕ) (ys : List ℕ) → map f (take n (drop at ys)) ≡ take n (drop at (map f ys))
map-part f n at ys = sym (take-map f n (drop at ys)) ∙ ap (take n) (sym (drop-map f at ys))

-- bytes that are written in the midst of others
pub map-mid : (f : ℕ → ℕ) (at end : ℕ) (ys b : List ℕ) → map f (take at ys ++ b ++ drop end ys) ≡ take at (map f ys) ++ map f b ++ drop end (map f ys)
map-mid f at end ys b =
    map-append f (take at ys ++ b) (drop end ys)
    ∙ ap₂ (λ xs zs. xs ++ zs)
    (map-append f (take at ys) b ∙ ap (λ xs. xs ++ map f b) (sym (take-map f at ys)))
    (sym (drop-map f end ys))

-- the constant of the S-box added to each byte of a state
pub constant-added-in-tower : {V : Type 0} (lane : V → ℕ → ℕ) (s constant : State V) (i : ℕ)
    → state_lane lane constant i ≡ replicate 16 SBOX_CONSTANT_IN_TOWER
    → xor_lists (tower_block lane s i) (tower_block lane constant i) ≡ with_constant (tower_block lane s i)
unfolding state_lane
constant-added-in-tower lane s constant i e =
    ap (λ b. xor_lists (tower_block lane s i) (map from_tower b)) e
    ∙ ap (λ (x : ℕ). xor_lists (tower_block lane s i) (replicate 16 x)) from_tower-constant

pub length-tower_lane : {V : Type 0} (lane : V → ℕ → ℕ) (words : List V) (i : ℕ) → length (tower_lane lane words i) ≡ length words
length-tower_lane lane words i = length-map (lane_of lane words i) from_tower ∙ length-map words (λ v. lane v i)

pub tower_lane-take : {V : Type 0} (lane : V → ℕ → ℕ) (n : ℕ) (words : List V) (i : ℕ) → tower_lane lane (take n words) i ≡ take n (tower_lane lane words i)
tower_lane-take lane n words i = ap (map from_tower) (sym (take-map (λ v. lane v i) n words)) ∙ sym (take-map from_tower n (lane_of lane words i))
