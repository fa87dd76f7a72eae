-- So many cells are there.
use Rattle.std.proofs.Common.{◌≡◌, map, replicate}
use Rattle.mbj_replay.proofs.replayer.unused_cells.Given as goal

abbrev pub invariant-loop : goal.invariant-loop
invariant-loop l = map (λ x. x.number) l.cells.items ≡ replicate l.counter 0
