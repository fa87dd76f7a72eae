-- What filling a job and submitting it come to, in one call.
use Rattle.std.specs.Prelude.{◌≡◌, ◌≢◌, ℕ, Bool, Option, Result, Ok, Err}
use Rattle.mbj_c.specs.declared.giving.Call.TheVariants as call
use Rattle.mbj_c.specs.declared.giving.RawDone.{RawDone}
use Rattle.mbj_c.specs.declared.job.RawJob.{RawJob}
use Rattle.mbj_c.specs.declared.refusal.Refusal.{Refusal}
use Rattle.mbj_c.specs.declared.refusal.Refusal.TheVariants.{Memory}
use Rattle.mbj_c.specs.Codes.{refusal_code}
use Rattle.mbj_c.specs.Filling.{filled, filled_at}
use Rattle.mbj_c.specs.Given.{Given}
use Rattle.mbj_c.specs.Giving.{IsReturned, answered, called_in}
use Rattle.mbj_c.specs.State.{RangedState}

-- a job that isn't filled isn't submitted, and the call is refused for that
abbrev pub submitted_by : Result Unit Refusal → RangedState → RawDone → Result (Option Given) Refusal × RangedState
submitted_by (Ok u) k out = called_in call.Submit k out
submitted_by (Err r) k out = (Err r, k)

-- the first open cell is filled, and its job submitted
abbrev pub submitted_in : RawJob → RangedState → RawDone → Result (Option Given) Refusal × RangedState
submitted_in r k out = submitted_by (filled_at 0 r k).0 (filled_at 0 r k).1 out

abbrev pub answered_by : Result Unit Refusal → Option RangedState → RawDone → Result (Option Given) Refusal × Option RangedState
answered_by (Ok u) m out = answered call.Submit m out
answered_by (Err r) m out = (Err r, m)

-- what the call comes to if there is memory: what submitting comes to after the job was filled
abbrev pub submitted : RawJob → Option RangedState → RawDone → Result (Option Given) Refusal × Option RangedState
submitted r m out = answered_by (filled r m).0 (filled r m).1 out

-- What is returned to C if the job is filled, or refused, in this way, and the call comes to `want` then. If the code is that of want
-- of memory, the job would be filled, nothing is given back, and nothing changes
pub record IsSubmittedAs {A : Type 0} (filling : Result Unit Refusal) (want : Result (Option Given) Refusal × A) (old : A) (flag : Bool) (code : ℕ)
    (before after : RawDone) (new : A) : Type 0 where
  pub want_of_memory : code ≡ refusal_code Memory → filling ≡ Ok tt
  pub unchanged : code ≡ refusal_code Memory → new ≡ old
  pub nothing : code ≡ refusal_code Memory → IsReturned (Err Memory) flag code before after
  pub state : code ≢ refusal_code Memory → new ≡ want.1
  pub returned : code ≢ refusal_code Memory → IsReturned want.0 flag code before after

abbrev pub IsSubmitted : RawJob → Option RangedState → Bool → ℕ → RawDone → RawDone → Option RangedState → Type 0
IsSubmitted r m flag code before after new = IsSubmittedAs (filled r m).0 (submitted r m before) m flag code before after new
