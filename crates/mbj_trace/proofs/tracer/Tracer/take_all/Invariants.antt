-- What was told and the lines of the calls that are left are those of all calls.
use Rattle.std.proofs.Common.{◌≡◌, ◌++◌, length}
use Rattle.mbj_trace.specs.Trace.{traced}
use Rattle.mbj_trace.specs.Inside.State.{jobs_in, state_of}
use Rattle.mbj_trace.proofs.tracer.Tracer.take_all.Given as goal

abbrev pub invariant-taking : goal.invariant-taking
invariant-taking l = record {
  lines : l.self.lines.items ++ (traced l.how (state_of l.self)).0 ≡ l.initial.self.lines.items ++ (traced l.how (state_of l.initial.self)).0;
  state : (traced l.how (state_of l.self)).1 ≡ (traced l.how (state_of l.initial.self)).1;
  count : jobs_in (state_of l.self) ≡ jobs_in (state_of l.initial.self);
}

abbrev pub decreases-taking : goal.decreases-taking
decreases-taking l = length l.self.manager.owed
