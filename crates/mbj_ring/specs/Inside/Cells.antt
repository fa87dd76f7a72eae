-- Cells that each hold a value or none.
use Rattle.std.specs.Prelude.{◌≡◌, ℕ, ◌<◌, List, length, Option, Some, None, get_or}

module _ {X : Type 0} where
  -- there is a cell at the place, and it is empty
  abbrev pub IsEmpty : List (Option X) → ℕ → Type 0
  IsEmpty cs i = (i < length cs) × (get_or cs i None ≡ None)

  -- the cell at the place holds a value
  abbrev pub IsFilled : List (Option X) → ℕ → Type 0
  IsFilled cs i = (x : X) × (get_or cs i None ≡ Some x)
