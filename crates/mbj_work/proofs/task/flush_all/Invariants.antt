-- What was taken back and what is owed stay the same together, and there is room for all of it.
use Rattle.std.proofs.Common.{◌≡◌, ◌++◌, length, vec_capacity}
use Rattle.mbj_work.proofs.task.flush_all.Given as goal

abbrev pub invariant-loop-done : goal.invariant-loop-done
invariant-loop-done l = record {
  order : l.results.items ++ l.manager.owed ≡ l.initial.results.items ++ l.initial.manager.owed;
  room : vec_capacity l.results ≡ vec_capacity l.initial.results;
}

abbrev pub decreases-loop-done : goal.decreases-loop-done
decreases-loop-done l = length l.manager.owed
