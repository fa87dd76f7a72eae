-- What was told and the lines of the jobs that are left are those of all jobs.
use Rattle.std.proofs.Common.{◌≡◌, ◌++◌, ◌+◌, ◌≤◌, length}
use Rattle.std.specs.Vec.Iter.{into_iter_items}
use Rattle.mbj_text.specs.declared.limits.TheConstants.{JOB_LIMIT}
use Rattle.mbj_trace.specs.Trace.{jobs_told}
use Rattle.mbj_trace.specs.Inside.State.{jobs_in, state_of}
use Rattle.mbj_trace.proofs.tracer.Tracer.submit_all.Given as goal

abbrev pub invariant-loop-job : goal.invariant-loop-job
invariant-loop-job l = record {
  next : (goal.iterator-loop-job).can_next l.job-iterator;
  finite : (goal.iterator-loop-job).is_finite l.job-iterator;
  lines : l.self.lines.items ++ (jobs_told l.number (into_iter_items l.job-iterator) (state_of l.self)).0
      ≡ l.initial.self.lines.items ++ (jobs_told 0 l.fn.jobs.items (state_of l.initial.self)).0;
  state : (jobs_told l.number (into_iter_items l.job-iterator) (state_of l.self)).1 ≡ (jobs_told 0 l.fn.jobs.items (state_of l.initial.self)).1;
  number : jobs_in (state_of l.self) ≡ l.number;
  room : l.number + length (into_iter_items l.job-iterator) ≤ JOB_LIMIT;
}
