-- The halves of 16 lanes.
use Rattle.std.specs.Prelude.{ℕ, ◌+◌, ◌<◌, ◌≤◌, Option, Some, None}
use Rattle.mbj_sha_lanes.specs.declared.halves.Half.{Half}
use Rattle.mbj_sha_lanes.specs.declared.halves.Half.TheVariants.{Lower, Upper}

-- the first lane of a half
abbrev pub first_of : Half → ℕ
first_of Lower = 0
first_of Upper = 8

abbrev pub IsIn : Half → ℕ → Type 0
IsIn half i = (first_of half ≤ i) × (i < first_of half + 8)

-- a lane is in the half, if one is named
abbrev pub IsWithin : Option Half → ℕ → Type 0
IsWithin None i = Unit {0}
IsWithin (Some half) i = IsIn half i
