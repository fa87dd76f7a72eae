-- Schedules in lanes.
use Rattle.std.specs.Prelude.{◌≡◌, ℕ, ◌⊎◌}

-- how many bytes a schedule has: 16 for each of 10, 12 or 14 rounds, and 16 more
abbrev pub IsScheduleSize : ℕ → Type 0
IsScheduleSize n = (n ≡ 176) ⊎ ((n ≡ 208) ⊎ (n ≡ 240))
