-- The first jobs are filled or refused, and their cells are open.
use Rattle.std.proofs.Common.{◌≤◌, length}
use Rattle.std.specs.Prelude.{IfSome}
use Rattle.mbj_c.specs.Filling.{filled_cell}
use Rattle.mbj_c.proofs.Bursting.{AreTaken}
use Rattle.mbj_c.proofs.bursts.fill.Given as goal

abbrev pub invariant-filling : goal.invariant-filling
invariant-filling l = record {
  are : AreTaken filled_cell l.place l.jobs l.fn.refusals l.refusals l.fn.handle.manager l.filled l.handle.manager;
  cell : IfSome l.handle.manager (λ k. l.filled ≤ length k.manager.opened);
}
