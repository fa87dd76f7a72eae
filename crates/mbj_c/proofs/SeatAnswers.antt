-- What a collect answers, by what is looked at before.
use Rattle.std.proofs.Common.{◌≡◌, ◌∙◌, ℕ, Bool, true, false, Option, None, Some, Result, Ok, Err, ap, refl, slice_get, subst, sym}
use Rattle.std.specs.Prelude.{if◌then◌else◌}
use Rattle.mbj_c.specs.declared.giving.RawDone.{RawDone}
use Rattle.mbj_c.specs.declared.refusal.Refusal.{Refusal}
use Rattle.mbj_c.specs.declared.refusal.Refusal.TheVariants.{NoRoom, NotSubmitter}
use Rattle.mbj_c.specs.Codes.{refusal_code}
use Rattle.mbj_c.specs.Given.{Given}
use Rattle.mbj_c.specs.Giving.{IsReturnedAt, has_room_for}
use Rattle.mbj_c.specs.Seats.{AnswersBy, Collects, IsCollectedIn, SeatState, collect_refusal, is_submitter}

-- where it is a submitter or not, and where there is room or not
by-tests : (s : SeatState) (out : RawDone) (submits room : Bool) → is_submitter s ≡ submits → has_room_for (slice_get s.ranges 0) out ≡ room
    → collect_refusal s out ≡ (if submits then (if room then None else Some NoRoom) else Some NotSubmitter)
by-tests s out submits room is fits =
    ap (λ (b : Bool). if b then (if has_room_for (slice_get s.ranges 0) out then None else Some NoRoom) else Some NotSubmitter) is
    ∙ ap (λ (b : Bool). if submits then (if b then None else Some NoRoom) else Some NotSubmitter) fits

-- a call that is refused
refused-for : (r : Refusal) (s t : SeatState) (code : ℕ) (out : RawDone) → collect_refusal s out ≡ Some r → t ≡ s → code ≡ refusal_code r
    → IsCollectedIn s t false code out out
refused-for r s t code out why same is = (
  Err r,
  (subst (λ (o : Option Refusal). AnswersBy o (Err r) s t) (sym why) (refl, same), record { result = (refl, refl); refusal = is }),
)

pub refused-worker : (s t : SeatState) (code : ℕ) (out : RawDone) → is_submitter s ≡ false → t ≡ s → code ≡ refusal_code NotSubmitter
    → IsCollectedIn s t false code out out
refused-worker s t code out works = refused-for NotSubmitter s t code out (by-tests s out false _ works refl)

pub refused-room : (s t : SeatState) (code : ℕ) (out : RawDone) → is_submitter s ≡ true → has_room_for (slice_get s.ranges 0) out ≡ false → t ≡ s
    → code ≡ refusal_code NoRoom → IsCollectedIn s t false code out out
refused-room s t code out submits lacks = refused-for NoRoom s t code out (by-tests s out true false submits lacks)

-- a call that nothing speaks against
pub collects-returned : (s t : SeatState) (flag : Bool) (before after : RawDone) → is_submitter s ≡ true → has_room_for (slice_get s.ranges 0) before ≡ true
    → (given : Option Given) × (Collects given s t × IsReturnedAt (Ok given) flag before after) → IsCollectedIn s t flag 0 before after
collects-returned s t flag before after submits room (given, (collects, returned)) = (
  Ok given,
  (
    subst (λ (o : Option Refusal). AnswersBy o (Ok given) s t) (sym (by-tests s before true true submits room)) collects,
    record { result = returned; refusal = refl },
  ),
)
