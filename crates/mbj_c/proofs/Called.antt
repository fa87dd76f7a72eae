-- What a call comes to, by what is looked at before it is made.
use Rattle.std.proofs.Common.{◌≡◌, ◌∙◌, ℕ, Bool, Err, None, Ok, Option, Result, Some, ap, false, refl, subst, sym, true}
use Rattle.std.specs.Prelude.{if◌then◌else◌}
use Rattle.mbj_c.specs.Given.{Given}
use Rattle.mbj_c.specs.declared.giving.Call.{Call}
use Rattle.mbj_c.specs.declared.giving.RawDone.{RawDone}
use Rattle.mbj_c.specs.declared.refusal.Refusal.{Refusal}
use Rattle.mbj_c.specs.declared.refusal.Refusal.TheVariants.{NoJob, NoRoom}
use Rattle.mbj_c.specs.Codes.{refusal_code}
use Rattle.mbj_c.specs.Giving.{IsReturned, IsReturnedAt, called_by, called_in, first_range, given_first, gone, has_job, has_room_for, step}
use Rattle.mbj_c.specs.State.{RangedState}
use Rattle.mbj_c.proofs.Ranges.{step-gone}

abbrev Called : Type 0
Called = Result (Option Given) Refusal × RangedState

-- where it has its job or not, and where there is room or not
by-tests : (c : Call) (k : RangedState) (out : RawDone) (job room : Bool) → has_job c k.manager ≡ job → has_room_for (first_range c k) out ≡ room
    → called_in c k out ≡ called_by (if job then (if room then None else Some NoRoom) else Some NoJob) c k
by-tests c k out job room has fits =
    ap (λ (b : Bool). called_by (if b then (if has_room_for (first_range c k) out then None else Some NoRoom) else Some NoJob) c k) has
    ∙ ap (λ (b : Bool). called_by (if job then (if b then None else Some NoRoom) else Some NoJob) c k) fits

-- what is returned of a call, and what it leaves
pub record IsCalled (called : Called) (flag : Bool) (code : ℕ) (before out : RawDone) (new : RangedState) : Type 0 where
  pub returned : IsReturned called.0 flag code before out
  pub state : new ≡ called.1

pub called-done : (c : Call) (k went new : RangedState) (flag : Bool) (before out : RawDone) → has_job c k.manager ≡ true
    → has_room_for (first_range c k) before ≡ true → went ≡ gone c k → IsReturnedAt (Ok (given_first went).0) flag before out → new ≡ (given_first went).1
    → IsCalled (called_in c k before) flag 0 before out new
called-done c k went new flag before out job room is returned state =
    let same : given_first went ≡ step c k = ap given_first is ∙ sym (step-gone c k) in
    subst (λ (a : Called). IsCalled a flag 0 before out new) (sym (by-tests c k before true true job room))
    (record {
      returned = record {
        result = subst (λ (s : Option Given × RangedState). IsReturnedAt (Ok s.0) flag before out) same returned;
        refusal = refl;
      };
      state = state ∙ ap (λ (s : Option Given × RangedState). s.1) same;
    })

pub called-without-room : (c : Call) (k new : RangedState) (code : ℕ) (before : RawDone) → has_job c k.manager ≡ true
    → has_room_for (first_range c k) before ≡ false → code ≡ refusal_code NoRoom → new ≡ k
    → IsCalled (called_in c k before) false code before before new
called-without-room c k new code before job room is same =
    subst (λ (a : Called). IsCalled a false code before before new) (sym (by-tests c k before true false job room))
    (record { returned = record { result = (refl, refl); refusal = is }; state = same })

pub called-without-job : (c : Call) (k new : RangedState) (code : ℕ) (before : RawDone) → has_job c k.manager ≡ false
    → code ≡ refusal_code NoJob → new ≡ k → IsCalled (called_in c k before) false code before before new
called-without-job c k new code before job is same =
    subst (λ (a : Called). IsCalled a false code before before new) (sym (by-tests c k before false _ job refl))
    (record { returned = record { result = (refl, refl); refusal = is }; state = same })
