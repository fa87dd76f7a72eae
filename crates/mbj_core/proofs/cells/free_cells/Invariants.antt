use Rattle.std.proofs.Common.{◌≡◌, replicate}
use Rattle.mbj_core.specs.declared.cells.Slot.TheVariants as slot
use Rattle.mbj_core.proofs.cells.free_cells.Given as goal

abbrev pub invariant-loop : goal.invariant-loop
invariant-loop l = l.cells.items ≡ replicate l.counter slot.Free
