-- The jobs before those that are left are dealt, and there is room for the others.
use Rattle.std.proofs.Common.{◌≤◌, All, length, map, vec_capacity}
use Rattle.std.specs.Vec.Iter.{into_iter_items}
use Rattle.std.specs.Int.{div_ceil}
use Rattle.mbj_work.proofs.Deals.{IsDealing}
use Rattle.mbj_work.proofs.dealing.deal.Given as goal

abbrev pub invariant-loop-i : goal.invariant-loop-i
invariant-loop-i l = record {
  next : (goal.iterator-loop-i).can_next l.i-iterator;
  finite : (goal.iterator-loop-i).is_finite l.i-iterator;
  dealing : IsDealing l.fn.jobs.items (into_iter_items l.i-iterator.iter) l.i-iterator.count l.submitters
      (map (λ list. list.items) l.lists.items);
  room : All (λ list. div_ceil (length l.fn.jobs.items) l.submitters ≤ vec_capacity list) l.lists.items;
}
