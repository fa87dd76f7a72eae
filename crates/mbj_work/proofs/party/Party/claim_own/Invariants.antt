use Rattle.mbj_front.specs.Seats.{view_of, IsOf}
use Rattle.mbj_work.specs.Parties.{KeepsDue}
use Rattle.mbj_work.proofs.party.Party.claim_own.Given as goal

abbrev pub invariant-loop-nth : goal.invariant-loop-nth
invariant-loop-nth g l = record {
  front : IsOf l.front l.self.seat;
  due : KeepsDue (view_of l.initial.self.seat) (view_of l.self.seat);
}
