use Rattle.std.proofs.Common.{◌<◌}
use Rattle.mbj_front.specs.Seats.{view_of, cells_of, IsOf}
use Rattle.mbj_work.specs.Parties.{KeepsDue}
use Rattle.mbj_work.proofs.party.Party.work_until.Given as goal

abbrev pub invariant-loop : goal.invariant-loop
invariant-loop g l = record {
  next : (goal.iterator-loop g).can_next l.iterator';
  finite : (goal.iterator-loop g).is_finite l.iterator';
  front : IsOf l.front l.self.seat;
  from : l.from < cells_of l.front;
  due : KeepsDue (view_of l.initial.self.seat) (view_of l.self.seat);
}
