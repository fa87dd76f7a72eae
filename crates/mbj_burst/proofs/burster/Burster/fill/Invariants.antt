-- The cells so far hold the first jobs.
use Rattle.std.proofs.Common.{◌≡◌, ◌++◌, drop, take}
use Rattle.std.specs.Vec.Iter.{into_iter_items}
use Rattle.mbj_burst.proofs.burster.Burster.fill.Given as goal

abbrev pub invariant-loop-index : goal.invariant-loop-index
invariant-loop-index l = record {
  manager : l.self.manager ≡ record (l.initial.self.manager) {
    opened = take l.index (into_iter_items l.initial.jobs) ++ drop l.index l.initial.self.manager.opened;
  };
  rest : into_iter_items l.jobs ≡ drop l.index (into_iter_items l.initial.jobs);
  results : l.self.results ≡ l.initial.self.results;
  lines : l.self.lines ≡ l.initial.self.lines;
}
