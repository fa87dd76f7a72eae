-- The jobs before this one have their copies.
use Rattle.std.proofs.Common.{◌≡◌, ◌++◌, map}
use Rattle.std.specs.Vec.Iter.{into_iter_items}
use Rattle.mbj_replay.specs.Inside.State.{with_copy}
use Rattle.mbj_replay.proofs.replayer.with_copies.Given as goal

abbrev pub invariant-loop-job : goal.invariant-loop-job
invariant-loop-job l = record {
  next : goal.iterator-loop-job.can_next l.job-iterator;
  finite : goal.iterator-loop-job.is_finite l.job-iterator;
  jobs : l.unposted.items ++ map with_copy (into_iter_items l.job-iterator) ≡ map with_copy l.fn.jobs.items;
}
