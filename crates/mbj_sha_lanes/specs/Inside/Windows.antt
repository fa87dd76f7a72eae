-- How far the rounds of a block are in one lane.
use Rattle.std.specs.Prelude.{◌≡◌, ℕ, ◌<◌, List, slice_index}
use Rattle.mbj_types.specs.Lanes.{lane_of}
use Rattle.mbj_sha_lanes.specs.declared.working.Working.{Working}
use Rattle.mbj_sha_lanes.specs.Sha2.{IsWindow, Sha2Standard, working_lane}

-- after t rounds of block b from the hash value h, in lane i, the words are the window of the schedule before word t, and v
-- are the working variables
abbrev pub IsWindowed : {V : Type 0} → (V → ℕ → ℕ) → Sha2Standard → ℕ → List ℕ → List ℕ → List V → Working V → ℕ → Type 0
IsWindowed lane f i b h words v t =
    IsWindow (lane_of lane words i) (f.schedule b) t × (working_lane lane v i ≡ f.rounds h (f.schedule b) t)

-- the first n words are those of the schedule
abbrev pub AreScheduled : List ℕ → List ℕ → ℕ → Type 0
AreScheduled words schedule n = (t : ℕ) → t < n → slice_index words t ≡ slice_index schedule t
