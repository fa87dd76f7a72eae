-- What was given and is due are the results of the jobs that were posted.
use Rattle.std.proofs.Common.{◌≡◌, ◌++◌, map, vec_capacity}
use Rattle.mbj_types.specs.Result.{result_of}
use Rattle.mbj_front.specs.Seats.{view_of, IsOf}
use Rattle.mbj_work.specs.Inside.Runs.{with_due}
use Rattle.mbj_work.proofs.party.Party.submit_all.Given as goal

abbrev pub invariant-loop-job : goal.invariant-loop-job
invariant-loop-job g l = record {
  next : (goal.iterator-loop-job g).can_next l.job-iterator;
  finite : (goal.iterator-loop-job g).is_finite l.job-iterator;
  front : IsOf l.front l.self.seat;
  number : (view_of l.self.seat).number ≡ (view_of l.initial.self.seat).number;
  capacity : vec_capacity l.results ≡ vec_capacity l.initial.results;
  results : with_due l.results.items (view_of l.self.seat)
      ≡ with_due l.initial.results.items (view_of l.initial.self.seat) ++ map result_of l.yielded;
}
