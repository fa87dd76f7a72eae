-- What the cells of a manager keep, those in its ring and those that are idle.
use Rattle.std.specs.Prelude.{◌≡◌, ℕ, ◌+◌, ◌≤◌, List, length, All}
use Rattle.mbj_types.specs.Blank.{blank}
use Rattle.mbj_ring.specs.declared.ring.TheConstants.{CELLS}
use Rattle.mbj_ring.specs.Ring.{RingState, all_values}
use Rattle.mbj_manager.specs.Cells.{Cell, Open}

-- the cell has a blank job
abbrev pub IsBlank : Cell → Type 0
IsBlank v = v ≡ Open blank

-- the idle cells are blank, those in the ring and they are all there are, and there is room for all of them
pub record IsStocked (r : RingState Cell) (idle : List Cell) (capacity : ℕ) : Type 0 where
  pub blanks : All IsBlank idle
  pub all : length idle + length (all_values r) ≡ CELLS
  pub room : CELLS ≤ capacity
