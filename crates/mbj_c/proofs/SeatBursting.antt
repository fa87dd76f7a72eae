-- The collects of a burst, one after another.
use Rattle.std.proofs.Common.{◌≡◌, ◌≤◌, ◌+◌, ◌∙◌, ℕ, List, Option, None, Some, Result, add-one, ap, arith, length, refl, set, slice_get, subst, sym}
use Rattle.std.proofs.lemmas.List.{length-set}
use Rattle.mbj_c.specs.declared.bursts.RawBurst.{RawBurst}
use Rattle.mbj_c.specs.declared.giving.RawDone.{RawDone}
use Rattle.mbj_c.specs.declared.refusal.Refusal.{Refusal}
use Rattle.mbj_c.specs.Bursts.{GiveBurst, IsBurstReturned, IsTurnReturned, no_calls, with_answer}
use Rattle.mbj_c.specs.Calls.{given_in}
use Rattle.mbj_c.specs.Given.{Given}
use Rattle.mbj_c.specs.SeatBursts.{CollectAll, CollectsMore}
use Rattle.mbj_c.specs.Seats.{MayAnswer, SeatState}
use Rattle.mbj_c.proofs.Bursting.{at-most-one, next-room, one-made, with-turn}

-- n collects of a burst are made
pub record AreCollected (n : ℕ) (before : Option SeatState) (outs : List RawDone) (returned : RawBurst) (rooms : List RawDone) (now : Option SeatState) : Type 0 where
  pub calls : GiveBurst (Option SeatState)
  pub are : CollectAll n outs before calls
  pub state : now ≡ calls.state
  pub is_returned : IsBurstReturned calls returned outs rooms
  pub given : returned.given ≤ n
  pub made : returned.made ≤ n
  pub size : length rooms ≡ length outs

pub none-collected : (outs : List RawDone) (m : Option SeatState) → AreCollected 0 m outs (record { made = 0; given = 0; refusal = 0 }) outs m
none-collected outs m = record {
  calls = no_calls m;
  are = refl;
  state = refl;
  is_returned = record { given = refl; made = refl; refusal = refl; rooms = λ i. refl };
  given = omega arith;
  made = omega arith;
  size = refl;
}

pub collected-next : (n : ℕ) (before : Option SeatState) (outs rooms : List RawDone) (returned next : RawBurst) (now after : Option SeatState)
    (out room : RawDone) (answer : Result (Option Given) Refusal) → AreCollected n before outs returned rooms now
    → slice_get rooms returned.given ≡ Some out → MayAnswer now out answer after → IsTurnReturned answer returned next out room
    → AreCollected (n + 1) before outs next (set rooms returned.given room) after
collected-next n before outs rooms returned next now after out room answer was there may turn =
    let a : GiveBurst (Option SeatState) = was.calls in
    let b : GiveBurst (Option SeatState) = with_answer (answer, after) a in
    let first : slice_get outs (length a.given) ≡ Some out =
    ap (slice_get outs) (sym was.is_returned.given) ∙ sym (next-room a returned outs rooms was.is_returned) ∙ there in
    let answers : MayAnswer a.state out answer after = subst (λ (m : Option SeatState). MayAnswer m out answer after) was.state may in
    let more : CollectsMore (slice_get outs (length a.given)) a b =
    subst (λ (o : Option RawDone). CollectsMore o a b) (sym first) (answer, (answers, refl)) in
    record {
      calls = b;
      are = subst (λ (k : ℕ). CollectAll k outs before b) (sym (add-one n)) (a, (was.are, more));
      state = refl;
      is_returned = with-turn a (answer, after) returned next outs rooms out room was.is_returned there turn;
      given = omega (arith, turn.given, was.given, at-most-one (given_in answer));
      made = omega (arith, turn.made, was.made, one-made answer);
      size = length-set rooms returned.given room ∙ was.size;
    }
