-- The results that are left lead to where all of them lead.
use Rattle.std.proofs.Common.{◌≡◌, ◌++◌, List, reverse, length, vec_capacity}
use Rattle.circular_buffer.specs.Buffer.{buffer}
use Rattle.mbj_types.specs.declared.done.Done.{Done}
use Rattle.mbj_core.specs.declared.party.View.{View}
use Rattle.mbj_core.specs.declared.party.Phase.TheVariants.{Rest}
use Rattle.mbj_front.specs.Seats.{view_of, IsOf}
use Rattle.mbj_work.specs.declared.party.TheConstants.{HAND_ROOM}
use Rattle.mbj_work.specs.Claims.{FinishesEach}
use Rattle.mbj_work.specs.Inside.Holding.{cells_in, results_in}
use Rattle.mbj_work.proofs.bursting.finish_each.Given as goal

abbrev pub invariant-finishing : goal.invariant-finishing
invariant-finishing l = record {
  front : IsOf l.front l.seat;
  rest : (view_of l.seat).phase ≡ Rest;
  first : (left : List Done) × (reverse l.settled.items ++ left ≡ results_in (view_of l.seat).hand);
  cells : l.cells ≡ buffer (cells_in (view_of l.seat).hand) HAND_ROOM;
  leads : (w : View Done) → FinishesEach l.front (reverse l.settled.items) (view_of l.seat) w
      → FinishesEach l.front (reverse l.initial.settled.items) (view_of l.initial.seat) w;
  room : vec_capacity l.settled ≡ vec_capacity l.initial.settled;
}

abbrev pub decreases-finishing : goal.decreases-finishing
decreases-finishing l = length l.settled.items
