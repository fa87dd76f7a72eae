-- Matrices of bytes, a row being a lane word. Its lanes are those of blocks of 16 bytes.
use Rattle.std.specs.Prelude.{ℕ, ◌+◌, ◌*◌, ◌%◌, nat_eq, List, slice_index, if◌then◌else◌}
use Rattle.mbj_types.specs.Lanes.{lane_of}
use Rattle.mbj_aes.specs.BlockWords.{block_with}

module _ {V : Type 0} (lane : V → ℕ → ℕ) where
  -- lane i of row j
  abbrev pub byte_at_row : List V → ℕ → ℕ → ℕ
  byte_at_row rows j i = slice_index (lane_of lane rows i) j

  -- block g of row j
  abbrev pub block_at_row : List V → ℕ → ℕ → List ℕ
  block_at_row rows j g = block_with (λ t. byte_at_row rows j (16 * g + t))

-- byte k of two rows in turn
abbrev pub in_turn : {V : Type 0} → V → V → ℕ → V
in_turn even odd k = if nat_eq (k % 2) 0 then even else odd
