-- Only the hand has changed, which gets shorter.
use Rattle.std.proofs.Common.{◌≡◌, length}
use Rattle.mbj_front.specs.Seats.{view_of, IsOf}
use Rattle.mbj_front.specs.Views.{after_finish}
use Rattle.mbj_work.specs.Turns.{GivesBack}
use Rattle.mbj_work.proofs.party.Party.give_all_back.Given as goal

abbrev pub invariant-loop : goal.invariant-loop
invariant-loop g l = record {
  front : IsOf l.front l.self.seat;
  hand : GivesBack (view_of l.initial.self.seat).hand (view_of l.self.seat).hand;
  part : view_of l.self.seat ≡ after_finish (view_of l.initial.self.seat) (view_of l.self.seat).hand;
}

abbrev pub decreases-loop : goal.decreases-loop
decreases-loop g l = length (view_of l.self.seat).hand
