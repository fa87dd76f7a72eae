-- What was collected and what is still due are together what was due, and there is room for all that is out.
use Rattle.std.proofs.Common.{◌≡◌, ◌+◌, ◌≤◌, ◌++◌, drop, vec_len, vec_capacity}
use Rattle.mbj_front.specs.Seats.{view_of, IsOf}
use Rattle.mbj_work.proofs.party.Party.collect_down_to.Given as goal

abbrev pub invariant-loop : goal.invariant-loop
invariant-loop g l = record {
  next : (goal.iterator-loop g).can_next l.iterator';
  finite : (goal.iterator-loop g).is_finite l.iterator';
  front : IsOf l.front l.self.seat;
  number : (view_of l.self.seat).number ≡ (view_of l.initial.self.seat).number;
  due : (view_of l.self.seat).due ≡ (view_of l.initial.self.seat).due;
  results : l.results.items ++ drop (view_of l.self.seat).handed (view_of l.self.seat).due
      ≡ l.initial.results.items ++ drop (view_of l.initial.self.seat).handed (view_of l.initial.self.seat).due;
  room : vec_len l.results + l.self.seat.out ≤ vec_capacity l.results;
  capacity : vec_capacity l.results ≡ vec_capacity l.initial.results;
}
