-- Counter blocks by how far they rose.
use Rattle.std.specs.Prelude.{ℕ, ◌+◌, ◌%◌, ◌^◌, List, ◌++◌, take, drop}
use Rattle.std.specs.Int.{w32, to_be_bytes, from_be_bytes}

-- the last 4 bytes, as a number, rise by n modulo 2^32
unfoldable pub incremented : List ℕ → ℕ → List ℕ
incremented b n = take 12 b ++ to_be_bytes w32 ((from_be_bytes w32 (drop 12 b) + n) % 2 ^ 32)
