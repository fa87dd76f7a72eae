-- So many jobs were claimed, and as many hunts as are left may claim more.
use Rattle.std.proofs.Common.{◌+◌, ◌<◌, ◌≤◌}
use Rattle.mbj_front.specs.Seats.{view_of, cells_of, IsOf}
use Rattle.mbj_work.specs.Parties.{KeepsDue}
use Rattle.mbj_work.specs.Turns.{ClaimsInTurn}
use Rattle.mbj_work.specs.declared.party.TheConstants.{CLAIMS}
use Rattle.mbj_work.proofs.party.Party.claim_some.Given as goal

abbrev pub invariant-loop-left : goal.invariant-loop-left
invariant-loop-left g l = record {
  front : IsOf l.front l.self.seat;
  from : l.at < cells_of l.front;
  most : l.claimed + l.left ≤ CLAIMS;
  hand : ClaimsInTurn l.claimed (view_of l.initial.self.seat).hand (view_of l.self.seat).hand;
  due : KeepsDue (view_of l.initial.self.seat) (view_of l.self.seat);
}

abbrev pub decreases-loop-left : goal.decreases-loop-left
decreases-loop-left g l = l.left
