-- Bytes of a block taken from other places of it. A block is told by its bytes: byte j is f j.
use Rattle.std.specs.Prelude.{ℕ, ◌+◌, ◌-◌, nat_lt, if◌then◌else◌}

-- the byte at place j, and 0 from 128 on
abbrev pub byte_or_zero : (ℕ → ℕ) → ℕ → ℕ
byte_or_zero f j = if nat_lt j 128 then f j else 0

-- byte j of a block that is moved up by n bytes, with zeros before it
abbrev pub moved_up : ℕ → (ℕ → ℕ) → ℕ → ℕ
moved_up n f j = if nat_lt j n then 0 else f (j - n)

-- byte j of what leaves a block of 16 bytes then
abbrev pub moved_out : ℕ → (ℕ → ℕ) → ℕ → ℕ
moved_out n f j = if nat_lt j n then f (16 - n + j) else 0
