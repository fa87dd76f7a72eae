use Rattle.std.proofs.Common.{◌≡◌, ◌∙◌, ◌<◌, ◌+◌, ℕ, suc, List, Option, Some, false, length, map, slice_get, take, ap, subst, sym, refl, arith}
use Rattle.mbj_c.specs.Places.{seat_in}
use Rattle.mbj_c.specs.Seats.{SeatState, has_seat}
use Rattle.mbj_c.proofs.SeatPlaces.{has-none, has-some, same-set, seat-at}
use Rattle.mbj_c.proofs.fronts.have_seat.Goals as goal

pub loop-place-preserved : goal.loop-place-preserved
loop-place-preserved c =
    let was = c.loop-place.invariant in
    let inside : c.loop-place.place < length c.loop-place.places = omega (arith, c.loop-place-test.true, c.requires, c.loop-place.auto.places) in
    record {
      same = same-set c.loop-place.places c.loop-place.place _ c.has_seat.new.handle c.has_seat.ensures.same ∙ was.same;
      none = subst (λ (n : ℕ). has_seat (take n (map seat_in c.args.places.now)) ≡ false)
          (let e : suc c.loop-place.place ≡ c.loop-place.place + 1 = omega arith in e) (has-none (map seat_in c.args.places.now) c.loop-place.place _ was.none
          (ap (λ (l : List (Option SeatState)). slice_get l c.loop-place.place) (sym was.same) ∙ seat-at c.loop-place.places c.loop-place.place _ inside)
          (sym c.has_seat.ensures.has ∙ c.if-has_seat.false));
    }

pub returns-then-has_seat-clause-same : goal.returns-then-has_seat-clause-same
returns-then-has_seat-clause-same c =
    same-set c.loop-place.places c.loop-place.place _ c.has_seat.new.handle c.has_seat.ensures.same ∙ c.loop-place.invariant.same

pub returns-then-has_seat-clause-has : goal.returns-then-has_seat-clause-has
returns-then-has_seat-clause-has c =
    let was = c.loop-place.invariant in
    let inside : c.loop-place.place < length c.loop-place.places = omega (arith, c.loop-place-test.true, c.requires, c.loop-place.auto.places) in
    sym (has-some (map seat_in c.args.places.now) c.loop-place.place c.args.parties _ c.loop-place-test.true
    (ap (λ (l : List (Option SeatState)). slice_get l c.loop-place.place) (sym was.same) ∙ seat-at c.loop-place.places c.loop-place.place _ inside)
    (sym c.has_seat.ensures.has ∙ c.if-has_seat.true))
