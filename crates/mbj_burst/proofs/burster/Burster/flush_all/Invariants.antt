-- What was told and the lines of the flushes that are left are those of all flushes.
use Rattle.std.proofs.Common.{◌++◌, List, length}
use Rattle.mbj_types.specs.declared.job.Job.{Job}
use Rattle.mbj_burst.specs.Burst.{flushes_told}
use Rattle.mbj_burst.specs.Inside.State.{HasResults, HasRoom, state_of}
use Rattle.mbj_burst.proofs.BurstLines.{IsLeft}
use Rattle.mbj_burst.proofs.burster.Burster.flush_all.Given as goal

abbrev pub invariant-flushing : goal.invariant-flushing
invariant-flushing l = record {
  left : IsLeft (length l.self.manager.owed) flushes_told l.self.lines.items (state_of l.self)
      (l.initial.self.lines.items ++ (flushes_told (length l.initial.self.manager.owed) (state_of l.initial.self)).0)
      (flushes_told (length l.initial.self.manager.owed) (state_of l.initial.self)).1;
  results : (jobs : List Job) → HasResults jobs (state_of l.initial.self) → HasResults jobs (state_of l.self);
  room : HasRoom 0 l.self;
}

abbrev pub decreases-flushing : goal.decreases-flushing
decreases-flushing l = length l.self.manager.owed
