-- A cell is made a turn, each with a blank job.
use Rattle.std.proofs.Common.{◌≡◌, length, vec_capacity}
use Rattle.std.specs.Prelude.{All}
use Rattle.mbj_ring.specs.declared.ring.TheConstants.{CELLS}
use Rattle.mbj_manager.specs.Inside.Stock.{IsBlank}
use Rattle.mbj_manager.proofs.cell_ring.all_idle.Given as goal

abbrev pub invariant-making : goal.invariant-making
invariant-making l = record {
  blanks : All IsBlank l.idle.items;
  all : length l.idle.items ≡ l.turn;
  room : vec_capacity l.idle ≡ CELLS;
}
