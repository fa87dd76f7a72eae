-- One seat more is made.
use Rattle.std.proofs.Common.{◌≡◌, ◌∙◌, ◌+◌, ◌++◌, ◌<◌, ℕ, suc, List, [], ◌∷◌, Option, None, Some, drop, length, map, slice_get, take, ap, ap₂, subst, sym, refl, arith, append-nil, length-append}
use Rattle.std.proofs.lemmas.List.{drop-drop, map-append}
use Rattle.std_alloc.specs.Arc.{arc_value}
use Rattle.mbj_types.specs.declared.done.Done.{Done}
use Rattle.mbj_types.specs.declared.job.Job.{Job}
use Rattle.mbj_core.specs.Parties.{new_party}
use Rattle.mbj_front.specs.Seats.{view_of, submitters_of, IsOf}
use Rattle.mbj_front.specs.declared.seat.PartySeat.{PartySeat}
use Rattle.mbj_c.specs.Seats.{SeatState, new_seat, new_seats}
use Rattle.mbj_c.proofs.SeatPlaces.{new-more}
use Rattle.mbj_c.proofs.SeatRanges.{first_behind}
use Rattle.mbj_c.proofs.fronts.seated.Goals as goal

-- the next seat is that of the next party
next-seat : (seats left : List (PartySeat Job Done)) (k : ℕ) (seat : PartySeat Job Done) (old : List (PartySeat Job Done))
    → old ≡ drop k seats → old ≡ seat ∷ left → slice_get seats k ≡ Some seat
next-seat seats left k seat old is popped = sym (first_behind k seats) ∙ ap (λ l. slice_get l 0) (sym is ∙ popped)

pub boxed-requires-clause-front : goal.boxed-requires-clause-front
boxed-requires-clause-front c =
    (c.requires (length c.loop-seat.made.items) c.in-Some.seat
    (next-seat c.args.seats.items c.pop_front.new.self.items (length c.loop-seat.made.items) c.in-Some.seat c.loop-seat.left.items
    c.loop-seat.invariant.rest c.in-Some.ensures.items)).0

pub boxed-requires-clause-blank : goal.boxed-requires-clause-blank
boxed-requires-clause-blank c =
    let k : ℕ = length c.loop-seat.made.items in
    let is = (c.requires k c.in-Some.seat
    (next-seat c.args.seats.items c.pop_front.new.self.items k c.in-Some.seat c.loop-seat.left.items
    c.loop-seat.invariant.rest c.in-Some.ensures.items)).1 in
    is ∙ ap new_party (sym (ap (λ v. v.number) is))

pub loop-seat-preserved : goal.loop-seat-preserved
loop-seat-preserved c =
    let was = c.loop-seat.invariant in
    let made = c.loop-seat.made.items in
    let k : ℕ = length made in
    let seats = c.args.seats.items in
    let submitters : ℕ = submitters_of (arc_value c.args.front.now) in
    let popped = c.in-Some.ensures.items in
    let is = (c.requires k c.in-Some.seat (next-seat seats c.pop_front.new.self.items k c.in-Some.seat c.loop-seat.left.items was.rest popped)).1 in
    let pushed = c.in_ok-push.ensures.items in
    let more : length c.push.new.self.items ≡ k + 1 = ap length pushed ∙ length-append made (c.in_ok-seated.seated ∷ []) in
    let value_is : c.in_ok-seated.seated.value ≡ new_seat submitters (0 + k) =
    c.in_ok-seated.ensures ∙ ap (new_seat submitters) (ap (λ v. v.number) is ∙ (let e : k ≡ 0 + k = omega arith in e)) in
    record {
      count = omega (arith, was.count, more, ap length popped);
      rest = sym (ap (drop 1) (sym was.rest ∙ popped)) ∙ drop-drop 1 k seats ∙ ap (λ n. drop n seats) (sym more);
      done = ap (map (λ b. b.value)) pushed ∙ map-append (λ b. b.value) made (c.in_ok-seated.seated ∷ [])
          ∙ ap₂ (λ (l : List SeatState) (s : SeatState). l ++ s ∷ []) was.done value_is ∙ new-more submitters 0 k
          ∙ ap (new_seats submitters 0) (let e : suc k ≡ k + 1 = omega arith in e ∙ sym more);
    }
