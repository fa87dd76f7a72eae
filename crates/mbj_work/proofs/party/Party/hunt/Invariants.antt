-- So many cells were looked at, and none was ready.
use Rattle.std.proofs.Common.{◌≡◌}
use Rattle.mbj_front.specs.Seats.{view_of, IsOf}
use Rattle.mbj_work.proofs.Rounds.{Passed}
use Rattle.mbj_work.proofs.party.Party.hunt.Given as goal

abbrev pub invariant-loop-i : goal.invariant-loop-i
invariant-loop-i l = record {
  front : IsOf l.front l.self.seat;
  manager : l.self.manager ≡ l.initial.self.manager;
  passed : Passed l.cells l.from l.i (view_of l.initial.self.seat) (view_of l.self.seat);
}
