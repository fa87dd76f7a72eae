-- The cells stay blank, and as many.
use Rattle.std.proofs.Common.{◌≡◌, length}
use Rattle.std.specs.Prelude.{All}
use Rattle.mbj_manager.specs.Inside.Stock.{IsBlank}
use Rattle.mbj_manager.proofs.cell_ring.CellRing.trim.Given as goal

abbrev pub invariant-cells : goal.invariant-cells
invariant-cells l = record {
  blanks : All IsBlank l.cell-items;
  all : length l.cell-items ≡ length l.initial.cell-items;
}
