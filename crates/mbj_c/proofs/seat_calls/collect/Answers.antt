-- The handle has what the seat's own collect left.
use Rattle.std.proofs.Common.{◌≡◌, Err, None, Option, Some, false, refl, subst, sym}
use Rattle.mbj_c.specs.declared.refusal.Refusal.TheVariants.{NoSeat}
use Rattle.mbj_c.specs.Seats.{IsCollected, IsCollectedIn, SeatState}
use Rattle.mbj_c.proofs.seat_calls.collect.Goals as goal

pub returns : goal.returns
returns c =
    let k : SeatState = c.in-Some.seat.value in
    let new : SeatState = c.collect-is_given.new.self in
    let flag = c.collect-is_given.result in
    let code = c.collect-is_given.new.refusal in
    let before = c.args.out.now in
    let after = c.collect-is_given.new.out in
    let returned : IsCollectedIn k new flag code before after =
    subst (λ (m : SeatState). IsCollectedIn m new flag code before after) c.deref_mut.ensures.value c.collect-is_given.ensures in
    subst (λ (m : Option SeatState). IsCollected m c.put.new.self.seat flag code before after) c.in-Some.ensures.seat
    (subst (λ (m : Option SeatState). IsCollected (Some k) m flag code before after) (sym c.put.ensures) returned)

-- without a seat nothing is collected
pub returns-in_default : goal.returns-in_default
returns-in_default c =
    let none : Option SeatState → Type 0 = λ m. IsCollected m c.take.new.self.seat false c.code.result c.args.out.now c.args.out.now in
    subst none c.in_default.ensures.seat
    (subst (λ (m : Option SeatState). IsCollected None m false c.code.result c.args.out.now c.args.out.now) (sym c.in_default.ensures.empty)
    (Err NoSeat, (refl, record { result = (refl, refl); refusal = c.code.ensures })))
