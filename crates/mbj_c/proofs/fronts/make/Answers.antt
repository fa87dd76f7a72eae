-- The places have room for all seats, and get them.
use Rattle.std.proofs.Common.{◌≡◌, ◌∙◌, ◌+◌, ◌++◌, ◌≤◌, ℕ, List, Option, Some, drop, length, map, ap, ap₂, subst, sym, arith}
use Rattle.std.proofs.lemmas.List.{length-map}
use Rattle.mbj_c.specs.Places.{seat_in}
use Rattle.mbj_c.specs.Seats.{SeatState, new_seats}
use Rattle.mbj_c.proofs.SeatPlaces.{length-new_seats}
use Rattle.mbj_c.proofs.fronts.make.Goals as goal

pub put_all-requires : goal.put_all-requires
put_all-requires c =
    let made = c.in_ok-made.made.items in
    let n : ℕ = c.args.submitters + c.args.workers in
    omega (
      arith,
      c.if-places-parties.false,
      length-map made (λ b. b.value),
      ap length c.in_ok-made.ensures.seats,
      length-new_seats c.args.submitters 0 n,
      length-map c.have_seat.new.places seat_in,
      length-map c.args.places.now seat_in,
      ap length c.have_seat.ensures.same,
    )

pub returns-clause-made : goal.returns-clause-made
returns-clause-made c =
    let made = c.in_ok-made.made.items in
    let n : ℕ = c.args.submitters + c.args.workers in
    let count : length made ≡ n =
    sym (length-map made (λ b. b.value)) ∙ ap length c.in_ok-made.ensures.seats ∙ length-new_seats c.args.submitters 0 n in
    c.put_all.ensures
    ∙ ap₂ (λ (ss : List SeatState) (k : ℕ). map Some ss ++ drop k (map seat_in c.have_seat.new.places)) c.in_ok-made.ensures.seats count
    ∙ ap (λ (ps : List (Option SeatState)). map Some (new_seats c.args.submitters 0 n) ++ drop n ps) c.have_seat.ensures.same
