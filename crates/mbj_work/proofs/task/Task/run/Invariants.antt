-- What came back, what is owed and the results of the jobs that are left are those of all jobs.
use Rattle.std.proofs.Common.{◌≡◌, ◌++◌, ◌≤◌, length, map, vec_capacity}
use Rattle.std.specs.Vec.Iter.{into_iter_items}
use Rattle.mbj_types.specs.Result.{result_of}
use Rattle.mbj_work.proofs.task.Task.run.Given as goal

abbrev pub invariant-loop-job : goal.invariant-loop-job
invariant-loop-job l = record {
  next : (goal.iterator-loop-job).can_next l.job-iterator;
  finite : (goal.iterator-loop-job).is_finite l.job-iterator;
  order : (l.results.items ++ l.manager.owed) ++ map result_of (into_iter_items l.job-iterator) ≡ map result_of l.fn.self.jobs.items;
  room : length l.fn.self.jobs.items ≤ vec_capacity l.results;
}
