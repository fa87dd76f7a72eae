-- The seats so far are at the first places.
use Rattle.std.proofs.Common.{◌≡◌, ◌+◌, ◌++◌, Some, drop, length, map, take}
use Rattle.mbj_c.specs.Places.{seat_in}
use Rattle.mbj_c.proofs.fronts.put_all.Given as goal

abbrev pub invariant-loop-seat : goal.invariant-loop-seat
invariant-loop-seat l = record {
  count : l.place + length l.made.items ≡ length l.initial.made.items;
  rest : map (λ b. b.value) l.made.items ≡ drop l.place (map (λ b. b.value) l.initial.made.items);
  done : map seat_in l.places ≡ map Some (take l.place (map (λ b. b.value) l.initial.made.items)) ++ drop l.place (map seat_in l.initial.places);
}

abbrev pub decreases-loop-seat : goal.decreases-loop-seat
decreases-loop-seat l = length l.made.items
