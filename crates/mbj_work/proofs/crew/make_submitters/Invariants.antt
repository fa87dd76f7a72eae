-- Each list so far has its submitter, and the seats that are left are the next ones.
use Rattle.std.proofs.Common.{◌≡◌, ◌+◌, length, map, All, Some}
use Rattle.mbj_work.specs.Inside.Runs.{AreSeatsFrom, HasJobs}
use Rattle.mbj_work.proofs.crew.make_submitters.Given as goal

abbrev pub invariant-loop-jobs : goal.invariant-loop-jobs
invariant-loop-jobs l = record {
  next : (goal.iterator-loop-jobs).can_next l.jobs-iterator;
  finite : (goal.iterator-loop-jobs).is_finite l.jobs-iterator;
  seats : AreSeatsFrom l.front (length l.yielded) l.seats.items;
  count : length l.yielded + length l.seats.items ≡ length l.initial.seats.items;
  ready : All (HasJobs l.front) l.submitters.items;
  jobs : map (λ s. s.jobs) l.submitters.items ≡ map Some l.yielded;
}
