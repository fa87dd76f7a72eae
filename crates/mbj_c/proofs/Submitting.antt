-- What is returned to C if it fills a job and submits it by one call.
use Rattle.std.proofs.Common.{◌≡◌, ◌≢◌, ◌∙◌, ℕ, Bool, false, Option, None, Some, Result, Ok, Err, ap, arith, refl, subst, sym}
use Rattle.std.specs.Prelude.{if◌then◌else◌}
use Rattle.std.proofs.lemmas.Bool.{cond_both}
use Rattle.mbj_c.specs.declared.giving.Call.{Call}
use Rattle.mbj_c.specs.declared.giving.Call.TheVariants as call
use Rattle.mbj_c.specs.declared.giving.RawDone.{RawDone}
use Rattle.mbj_c.specs.declared.job.RawJob.{RawJob}
use Rattle.mbj_c.specs.declared.refusal.Refusal.{Refusal}
use Rattle.mbj_c.specs.declared.refusal.Refusal.TheVariants.{Memory, NoJob, NoRoom}
use Rattle.mbj_c.specs.Codes.{code_of, refusal_code}
use Rattle.mbj_c.specs.Filling.{filled_at}
use Rattle.mbj_c.specs.Given.{Given}
use Rattle.mbj_c.specs.Giving.{IsReturned, called_by, called_in, first_range, has_job, has_room_for}
use Rattle.mbj_c.specs.Inside.Answers.{IsDoneAs}
use Rattle.mbj_c.specs.State.{RangedState}
use Rattle.mbj_c.specs.Submitting.{IsSubmitted, IsSubmittedAs, answered_by, submitted_by, submitted_in}
use Rattle.mbj_c.proofs.Bursting.{only-memory}

-- a call that may give a result back isn't refused for want of memory
called-for-another : (c : Call) (k : RangedState) (out : RawDone) → code_of (called_in c k out).0 ≢ refusal_code Memory
called-for-another c k out =
    let not_memory : Option Refusal → Type 0 = λ r. code_of (called_by r c k).0 ≢ refusal_code Memory in
    let room : Bool = has_room_for (first_range c k) out in
    cond_both (has_job c k.manager) (if room then None else Some NoRoom) (Some NoJob) not_memory
    (λ has. cond_both room None (Some NoRoom) not_memory (λ fits is. absurd (omega arith)) (λ lacks is. absurd (omega arith)))
    (λ none is. absurd (omega arith))

-- the job is filled, and submitted
pub submitted-filled : (filling : Result Unit Refusal) (next old middle new : RangedState) (flag : Bool) (code : ℕ) (before after : RawDone)
    → IsDoneAs filling next old (Ok tt) middle → new ≡ (called_in call.Submit middle before).1
    → IsReturned (called_in call.Submit middle before).0 flag code before after
    → IsSubmittedAs filling (submitted_by filling next before) old flag code before after new
submitted-filled (Ok u) next old middle new flag code before after done state returned =
    let is_returned : IsReturned (called_in call.Submit next before).0 flag code before after =
    subst (λ (k : RangedState). IsReturned (called_in call.Submit k before).0 flag code before after) done returned in
    let other : code ≢ refusal_code Memory = λ is. called-for-another call.Submit next before (sym is_returned.refusal ∙ is) in
    record {
      want_of_memory = λ is. refl;
      unchanged = λ is. absurd (other is);
      nothing = λ is. absurd (other is);
      state = λ no. state ∙ ap (λ (k : RangedState). (called_in call.Submit k before).1) done;
      returned = λ no. is_returned;
    }
submitted-filled (Err q) next old middle new flag code before after done state returned = absurd (cc)

-- it isn't filled, for want of memory or as it should be
pub submitted-unfilled : (filling : Result Unit Refusal) (next old new : RangedState) (why : Refusal) (code : ℕ) (before : RawDone)
    → IsDoneAs filling next old (Err why) new → filling ≢ Err Memory → code ≡ refusal_code why
    → IsSubmittedAs filling (submitted_by filling next before) old false code before before new
submitted-unfilled (Ok u) next old new why code before done another is =
    let memory : code ≡ refusal_code Memory = is ∙ ap refusal_code done.0 in
    record {
      want_of_memory = λ m. refl;
      unchanged = λ m. done.1;
      nothing = λ m. record { result = (refl, refl); refusal = memory };
      state = λ no. absurd (no memory);
      returned = λ no. absurd (no memory);
    }
submitted-unfilled (Err q) next old new why code before done another is =
    let same : why ≡ q = cc in
    let other : code ≢ refusal_code Memory = λ m. another (ap Err (only-memory q (sym (is ∙ ap refusal_code same) ∙ m))) in
    record {
      want_of_memory = λ m. absurd (other m);
      unchanged = λ m. absurd (other m);
      nothing = λ m. absurd (other m);
      state = λ no. done.1;
      returned = λ no. record { result = (refl, refl); refusal = is ∙ ap refusal_code same };
    }

-- ---- the handle

by-filling : (filling : Result Unit Refusal) (k : RangedState) (out : RawDone)
    → answered_by filling (Some k) out ≡ ((submitted_by filling k out).0, Some (submitted_by filling k out).1)
by-filling (Ok u) k out = refl
by-filling (Err r) k out = refl

-- what is returned of a manager is returned of the handle that has it
pub submitted-some : (r : RawJob) (k new : RangedState) (flag : Bool) (code : ℕ) (before after : RawDone)
    → IsSubmittedAs (filled_at 0 r k).0 (submitted_in r k before) k flag code before after new
    → IsSubmitted r (Some k) flag code before after (Some new)
submitted-some r k new flag code before after is =
    let want : Result (Option Given) Refusal × Option RangedState = ((submitted_in r k before).0, Some (submitted_in r k before).1) in
    subst (λ (w : Result (Option Given) Refusal × Option RangedState). IsSubmittedAs (filled_at 0 r k).0 w (Some k) flag code before after (Some new))
    (sym (by-filling (filled_at 0 r k).0 (filled_at 0 r k).1 before))
    (record {
      want_of_memory = is.want_of_memory;
      unchanged = λ m. ap Some (is.unchanged m);
      nothing = is.nothing;
      state = λ no. ap Some (is.state no);
      returned = is.returned;
    })
