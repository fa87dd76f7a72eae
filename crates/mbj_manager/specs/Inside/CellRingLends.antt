-- What a ring of cells ends as, once a `&mut` into it has ended.
use Rattle.std.specs.Prelude.{ℕ, Option}
use Rattle.std.specs.Borrow.{Fml, Lends, LendsIf, MutBor}
use Rattle.mbj_ring.specs.Ring.{RingState, number_at, with_open_at, with_value_at}
use Rattle.mbj_manager.specs.Cells.{Cell}
use Rattle.mbj_manager.specs.contracts.cell.Cell.{the_row as cell_row}
use Rattle.mbj_manager.specs.contracts.cell_ring.CellRing.{the_row}

-- the first open cell is the last one written through r, and at `None` the ring stays as it is
abbrev pub LendsOpen : MutBor (RingState Cell) → Option (MutBor Cell) → Fml
LendsOpen b r = LendsIf the_row cell_row b r (with_open_at b.now 0) b.now

-- open cell i is the last one written through r
abbrev pub LendsOpenAt : MutBor (RingState Cell) → ℕ → MutBor Cell → Fml
LendsOpenAt b i r = Lends the_row cell_row b r (with_open_at b.now i)

-- the first cell is the last one written through r, and at `None` the ring stays as it is
abbrev pub LendsFront : MutBor (RingState Cell) → Option (MutBor Cell) → Fml
LendsFront b r = LendsIf the_row cell_row b r (with_value_at b.now 0) b.now

-- the cell at the place is the last one written through r
abbrev pub LendsAt : MutBor (RingState Cell) → ℕ → MutBor Cell → Fml
LendsAt b p r = Lends the_row cell_row b r (with_value_at b.now (number_at b.now p))
