-- So many idle workers are there.
use Rattle.std.proofs.Common.{◌≡◌, [], map, replicate}
use Rattle.mbj_manager.specs.State.{new_manager}
use Rattle.mbj_replay.proofs.worker.idle_workers.Given as goal

abbrev pub invariant-loop : goal.invariant-loop
invariant-loop l = record {
  managers : map (λ w. w.manager) l.workers.items ≡ replicate l.counter new_manager;
  hands : map (λ w. w.hand.items) l.workers.items ≡ replicate l.counter [];
}
