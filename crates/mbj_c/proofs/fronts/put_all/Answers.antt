-- One seat more is put where it belongs.
use Rattle.std.proofs.Common.{◌≡◌, ◌∙◌, ◌+◌, ◌++◌, ◌<◌, ℕ, suc, List, [], ◌∷◌, Option, Some, drop, length, map, set, take, ap, ap₂, subst, sym, refl, arith, append-nil}
use Rattle.std.proofs.lemmas.List.{drop-drop, map-set, length-map}
use Rattle.mbj_c.specs.Places.{seat_in}
use Rattle.mbj_c.specs.Seats.{SeatState}
use Rattle.mbj_c.proofs.SeatPlaces.{put-next}
use Rattle.mbj_c.proofs.fronts.put_all.Goals as goal

pub loop-seat-init : goal.loop-seat-init
loop-seat-init c = record { count = omega arith; rest = refl; done = refl }

pub loop-seat-preserved : goal.loop-seat-preserved
loop-seat-preserved c =
    let was = c.loop-seat.invariant in
    let i : ℕ = c.loop-seat.place in
    let all : List SeatState = map (λ b. b.value) c.args.made.items in
    let ss : List (Option SeatState) = map seat_in c.args.places.now in
    let popped = c.in-Some.ensures.items in
    let next : drop i all ≡ c.in-Some.seat.value ∷ map (λ b. b.value) c.pop_front.new.self.items =
    sym was.rest ∙ ap (map (λ b. b.value)) popped in
    let inside : i < length ss = omega (arith, was.count, c.requires, ap length popped, length-map c.args.places.now seat_in) in
    let on : suc i ≡ i + 1 = omega arith in
    record {
      count = omega (arith, was.count, ap length popped);
      rest = sym (ap (drop 1) next) ∙ drop-drop 1 i all;
      done = map-set seat_in c.loop-seat.places i _ ∙ ap₂ (λ l s. set l i s) was.done c.put.ensures
          ∙ put-next all (map (λ b. b.value) c.pop_front.new.self.items) ss i c.in-Some.seat.value next inside
          ∙ ap (λ (n : ℕ). map Some (take n all) ++ drop n ss) on;
    }
