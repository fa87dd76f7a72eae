-- What the cells end as, once a `&mut` into one of them has ended.
use Rattle.std.specs.Prelude.{ℕ, Some, set}
use Rattle.std.specs.Borrow.{Fml, RattleType, MutBor, Lends}
use Rattle.mbj_ring.specs.declared.cells.Cells.{Cells}
use Rattle.mbj_ring.specs.contracts.cells.Cells.{the_row}

-- the cells c with the value w at the place
abbrev pub with_value : {X : Type 0} → Cells X → ℕ → X → Cells X
with_value c i w = record { base = c.base; held = set c.held i (Some w) }

-- the cell at the place holds the last value written through r
abbrev pub LendsCell : (R : RattleType) → MutBor (Cells R.Denot) → ℕ → MutBor R.Denot → Fml
LendsCell R c i r = Lends (the_row R) R c r (with_value c.now i)
