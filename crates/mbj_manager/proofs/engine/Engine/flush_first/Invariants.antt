-- The flush steps still ahead come to where the whole flush comes, and nothing else changes.
use Rattle.std.proofs.Common.{◌≡◌, []}
use Rattle.mbj_manager.specs.Machine.Course.{flushed, stages_left}
use Rattle.mbj_manager.proofs.Flushing.{FlushReaches}
use Rattle.mbj_manager.proofs.engine.Engine.flush_first.Given as goal

abbrev pub invariant-flushing : goal.invariant-flushing
invariant-flushing l = record {
  reaches : FlushReaches l.self.machine (flushed l.initial.self.machine);
  owed_is : l.self.owed ≡ l.initial.self.owed;
  jobs_are : l.self.jobs ≡ l.initial.self.jobs;
  opened_is : l.self.opened ≡ l.initial.self.opened;
  count_is : l.self.expansions ≡ l.initial.self.expansions;
  idle : l.self.machine.agenda ≡ [];
}

abbrev pub decreases-flushing : goal.decreases-flushing
decreases-flushing l = stages_left l.self.machine.left
