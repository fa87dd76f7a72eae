-- What the functions inside the crate compute. No public clause cites it.
use Rattle.std.specs.Prelude.{◌≡◌, ℕ, ◌/◌, ◌%◌, ◌<◌, Bool, List, [], slice_index_or}
use Rattle.mbj_types.specs.Field.{bits, times_power, multiple, weighted}
use Rattle.mbj_types.specs.Ghash.{element, block_product, square, cube}
use Rattle.mbj_types.specs.Lanes.{lane_at}
use Rattle.mbj_aes.specs.BlockWords.{block_with, block_byte, block_at}
use Rattle.mbj_ghash.specs.declared.rows.Register.{Register}
use Rattle.mbj_ghash.specs.declared.rows.Rows.{Rows}
use Rattle.mbj_ghash.specs.declared.horner.Powers.{Powers}

-- the lanes of register i of an array
abbrev pub register : List Register → ℕ → List ℕ
register rs i = (slice_index_or rs i (record { bytes = [] })).bytes

-- of eight places: the first halves count from byte 0 on, the second ones from byte 8 on
abbrev pub sum_of : List Register → List Bool
sum_of places = weighted (λ d. element (block_at (lane_at 8) (register places (d % 8)) (d / 8))) 16

-- both halves of a register are the element p
abbrev pub IsInBoth : List Bool → List ℕ → Type 0
IsInBoth p x = (b : ℕ) → b < 2 → element (block_at (lane_at 8) x b) ≡ p

-- the block that eight rows have at place n: the bytes in their first halves, and then those in the second ones
abbrev pub entry : List Register → ℕ → List ℕ
entry rows n = block_with (λ d. block_byte (lane_at 8) (register rows (d % 8)) (d / 8) n)

-- at each half byte n they have the multiple of p by its bits
abbrev pub AreRows : List Bool → List Register → Type 0
AreRows p rows = (n : ℕ) → n < 16 → element (entry rows n) ≡ multiple (bits 4 n) p

-- the rows of the block h, for the high halves of bytes and for the low ones, which stand 4 places above
pub record AreRowsOf (h : List ℕ) (rows : Rows) : Type 0 where
  pub high : AreRows (element h) rows.high
  pub low : AreRows (times_power 4 (element h)) rows.low

pub record ArePowers (h : List ℕ) (p : Powers) : Type 0 where
  pub second : AreRowsOf (square h) p.second
  pub third : AreRowsOf (cube h) p.third
  pub fourth : AreRowsOf (block_product (cube h) h) p.fourth
