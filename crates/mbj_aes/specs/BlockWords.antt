-- Lane words whose lanes are whole blocks of 16 bytes, one block after another.
use Rattle.std.specs.Prelude.{ℕ, ◌+◌, ◌*◌, List, map}
use Rattle.std.specs.List.{range_with_len}

-- the block with these bytes
unfoldable pub block_with : (ℕ → ℕ) → List ℕ
block_with f = map f (range_with_len 0 16)

module _ {V : Type 0} (lane : V → ℕ → ℕ) where
  -- byte j of block b
  abbrev pub block_byte : V → ℕ → ℕ → ℕ
  block_byte x b j = lane x (16 * b + j)

  -- block b
  abbrev pub block_at : V → ℕ → List ℕ
  block_at x b = block_with (block_byte x b)
