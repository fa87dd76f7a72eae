-- No cell is closed.
use Rattle.std.proofs.Common.{◌≡◌, length}
use Rattle.mbj_bench.proofs.jobs.fill.Given as goal

abbrev pub invariant-loop-index : goal.invariant-loop-index
invariant-loop-index l = length l.manager.opened ≡ length l.initial.manager.opened
