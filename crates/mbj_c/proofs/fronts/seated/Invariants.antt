-- The seats so far are those of the first parties.
use Rattle.std.proofs.Common.{◌≡◌, ◌+◌, drop, length, map}
use Rattle.std_alloc.specs.Arc.{arc_value}
use Rattle.mbj_front.specs.Seats.{submitters_of}
use Rattle.mbj_c.specs.Seats.{new_seats}
use Rattle.mbj_c.proofs.fronts.seated.Given as goal

abbrev pub invariant-loop-seat : goal.invariant-loop-seat
invariant-loop-seat l = record {
  count : length l.made.items + length l.left.items ≡ length l.fn.seats.items;
  rest : l.left.items ≡ drop (length l.made.items) l.fn.seats.items;
  done : map (λ b. b.value) l.made.items ≡ new_seats (submitters_of (arc_value l.front)) 0 (length l.made.items);
}

abbrev pub decreases-loop-seat : goal.decreases-loop-seat
decreases-loop-seat l = length l.left.items
