-- Words side by side in the lanes of a vector.
use Rattle.std.specs.Prelude.{ℕ, ◌%◌, ◌^◌, ◌<◌, ◌≤◌, ◌⊎◌, nat_lt, List, map, slice_index, if◌then◌else◌}
use Rattle.std.specs.List.{range_with_len}
use Rattle.std.proofs.Common.{mod-lt, pow_pos}

-- the word of `bits` bits at lane i of a vector
abbrev pub lane_at : ℕ → List ℕ → ℕ → ℕ
lane_at bits v i = slice_index v i % 2 ^ bits

-- a lane word with n lanes, seen as the list of its lanes
abbrev pub lane_list : {V : Type 0} → (V → ℕ → ℕ) → ℕ → V → List ℕ
lane_list lane n v = map (λ i. lane v i) (range_with_len 0 n)

-- lane i of each of the lane words
abbrev pub lane_of : {V : Type 0} → (V → ℕ → ℕ) → List V → ℕ → List ℕ
lane_of lane vs i = map (λ v. lane v i) vs

-- where a table of 16 bytes is looked up: at one of them, or from 128 on at none
abbrev pub IsTableIndex : ℕ → Type 0
IsTableIndex i = (i < 16) ⊎ (128 ≤ i)

-- the byte there, and 0 if there is none
abbrev pub table_byte : List ℕ → ℕ → ℕ
table_byte table i = if nat_lt i 128 then slice_index table i % 2 ^ 8 else 0

-- a lane holds a word
pub lane_at-lt : (bits : ℕ) (v : List ℕ) (i : ℕ) → lane_at bits v i < 2 ^ bits
lane_at-lt bits v i = mod-lt (slice_index v i) (pow_pos bits)
