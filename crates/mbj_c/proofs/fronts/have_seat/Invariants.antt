-- No place so far has a seat, and all are as they were.
use Rattle.std.proofs.Common.{◌≡◌, false, map, take}
use Rattle.mbj_c.specs.Places.{seat_in}
use Rattle.mbj_c.specs.Seats.{has_seat}
use Rattle.mbj_c.proofs.fronts.have_seat.Given as goal

abbrev pub invariant-loop-place : goal.invariant-loop-place
invariant-loop-place l = record {
  same : map seat_in l.places ≡ map seat_in l.fn.places;
  none : has_seat (take l.place (map seat_in l.fn.places)) ≡ false;
}
