-- The key in the array of a schedule.
use Rattle.std.specs.Prelude.{◌≡◌, ℕ, ◌+◌, ◌-◌, ◌*◌, List, take}
use Rattle.mbj_types.specs.Aes.{key_schedule}

-- the schedule of this many rounds is the expansion of the key that its first bytes are
abbrev pub IsExpanded : ℕ → List ℕ → Type 0
IsExpanded rounds bytes = key_schedule (take (4 * (rounds - 6)) bytes) ≡ take (16 * (rounds + 1)) bytes
