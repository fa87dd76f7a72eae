-- The tasks that were made have the lists up to those that are left, and there is room for the others.
use Rattle.std.proofs.Common.{◌≡◌, ◌++◌, ◌+◌, ◌≤◌, length, map, vec_capacity}
use Rattle.std.specs.Vec.Iter.{into_iter_items}
use Rattle.mbj_work.proofs.private.tasks_of.Given as goal

abbrev pub invariant-loop-jobs : goal.invariant-loop-jobs
invariant-loop-jobs l = record {
  next : (goal.iterator-loop-jobs).can_next l.jobs-iterator;
  finite : (goal.iterator-loop-jobs).is_finite l.jobs-iterator;
  order : map (λ t. t.jobs.items) l.tasks.items ++ map (λ v. v.items) (into_iter_items l.jobs-iterator) ≡ map (λ v. v.items) l.fn.lists.items;
  room : length l.tasks.items + length (into_iter_items l.jobs-iterator) ≤ vec_capacity l.tasks;
}
