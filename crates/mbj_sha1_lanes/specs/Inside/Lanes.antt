-- The rounds of SHA-1 in one lane.
use Rattle.std.specs.Prelude.{ℕ, List, [], ◌∷◌}
use Rattle.sha1.specs.Sha1.{IsRoundsAt}
use Rattle.mbj_types.specs.Lanes.{lane_of}
use Rattle.mbj_sha1_lanes.specs.declared.rounds.Working.{Working}

-- the working variables a, …, e of lane i
abbrev pub working_lane : {V : Type 0} → (V → ℕ → ℕ) → Working V → ℕ → List ℕ
working_lane lane v i = lane v.a i ∷ lane v.b i ∷ lane v.c i ∷ lane v.d i ∷ lane v.e i ∷ []

-- in lane i, after t rounds of block b from the hash value h, the words are the window of the
-- schedule before t, and v are the working variables
abbrev pub IsLaneAt : {V : Type 0} → (V → ℕ → ℕ) → ℕ → List ℕ → List ℕ → List V → Working V → ℕ → Type 0
IsLaneAt lane i b h words v t = IsRoundsAt b h (lane_of lane words i) (working_lane lane v i) t
