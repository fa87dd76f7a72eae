-- What bursts come to: the single calls, one after another.
use Rattle.std.specs.Prelude.{◌≡◌, ◌≢◌, ◌==◌, ℕ, zero, suc, ◌+◌, ◌<◌, ◌≤◌, List, [], ◌++◌, length, min, Option, Some, None, option_to_list, slice_get, Result, Ok, Err, if◌then◌else◌}
use Rattle.mbj_c.specs.declared.bursts.RawBurst.{RawBurst}
use Rattle.mbj_c.specs.declared.giving.Call.{Call}
use Rattle.mbj_c.specs.Given.{Given}
use Rattle.mbj_c.specs.declared.giving.RawDone.{RawDone}
use Rattle.mbj_c.specs.declared.job.RawJob.{RawJob}
use Rattle.mbj_c.specs.declared.refusal.Refusal.{Refusal}
use Rattle.mbj_c.specs.declared.refusal.Refusal.TheVariants.{Memory}
use Rattle.mbj_c.specs.Calls.{given_in}
use Rattle.mbj_c.specs.Codes.{code_of, refusal_code}
use Rattle.mbj_c.specs.Giving.{IsWritten, answered}
use Rattle.mbj_c.specs.State.{RangedState}

-- ---- taking jobs

-- how many jobs a burst took, and the state then
pub record TakeBurst (S : Type 0) : Type 0 where
  pub taken : ℕ
  pub state : S

abbrev pub take_burst : {S : Type 0} → ℕ → S → TakeBurst S
take_burst n s = record { taken = n; state = s }

-- a job that is taken is the next one; a refused one changes nothing
abbrev pub taken_more : {S : Type 0} → Result Unit Refusal × S → TakeBurst S → TakeBurst S
taken_more (Ok u, s) b = record { taken = b.taken + 1; state = s }
taken_more (Err r, s) b = b

-- what the single call comes to, behind so many jobs that the burst took
module _ {S : Type 0} (call : ℕ → RawJob → S → Result Unit Refusal × S) where
  -- this code was returned for the job of this place: it is taken as the single call does it, behind those that the burst took, or it
  -- lacked memory
  abbrev pub with_returned : Option RawJob → Option ℕ → TakeBurst S → TakeBurst S
  with_returned (Some r) (Some code) b =
      if code == refusal_code Memory then b else taken_more (call b.taken r b.state) b
  with_returned r code b = b

  -- what the first n jobs of a burst come to, for which these codes were returned
  unfoldable pub after_taking : ℕ → List RawJob → List ℕ → S → TakeBurst S
  after_taking zero jobs codes s = take_burst 0 s
  after_taking (suc n) jobs codes s = with_returned (slice_get jobs n) (slice_get codes n) (after_taking n jobs codes s)

  -- a job's code is that of the single call, which takes it behind those that the burst took, or that of want of memory, if it
  -- would be taken
  abbrev pub IsAnswer : Option RawJob → Option ℕ → TakeBurst S → Type 0
  IsAnswer (Some r) (Some code) b =
      (code ≡ refusal_code Memory → (call b.taken r b.state).0 ≡ Ok tt)
      × (code ≢ refusal_code Memory → code ≡ code_of (call b.taken r b.state).0)
  IsAnswer r code b = ⊥

  -- Each job has its own code, at its place, and the codes behind the last job's stay. What is taken, and the state then, is what
  -- these codes say
  pub record IsBurstTaken (jobs : List RawJob) (before codes : List ℕ) (s : S) (taken : ℕ) (after : S) : Type 0 where
    pub each : (i : ℕ) → i < min (length jobs) (length before) → IsAnswer (slice_get jobs i) (slice_get codes i) (after_taking i jobs codes s)
    pub others : (i : ℕ) → length jobs ≤ i → slice_get codes i ≡ slice_get before i
    pub count : taken ≡ (after_taking (min (length jobs) (length before)) jobs codes s).taken
    pub state : after ≡ (after_taking (min (length jobs) (length before)) jobs codes s).state

-- ---- giving back

-- the results that the calls of a burst gave, how many of the calls weren't refused, what the last one answered, and the state then
pub record GiveBurst (S : Type 0) : Type 0 where
  pub given : List Given
  pub made : ℕ
  pub refusal : ℕ
  pub state : S

-- before the first call
abbrev pub no_calls : {S : Type 0} → S → GiveBurst S
no_calls s = record { given = []; made = 0; refusal = 0; state = s }

-- one for a call that isn't refused
abbrev pub count_of : Result (Option Given) Refusal → ℕ
count_of (Ok g) = 1
count_of (Err r) = 0

abbrev pub with_answer : {S : Type 0} → Result (Option Given) Refusal × S → GiveBurst S → GiveBurst S
with_answer a b = record {
  given = b.given ++ option_to_list (given_in a.0);
  made = b.made + count_of a.0;
  refusal = code_of a.0;
  state = a.1;
}

-- a call has the room of the place that the next result has
abbrev pub with_call : Call → Option RawDone → GiveBurst (Option RangedState) → GiveBurst (Option RangedState)
with_call c None b = b
with_call c (Some out) b = with_answer (answered c b.state out) b

-- what n calls come to, one after another
unfoldable pub after_giving : ℕ → Call → List RawDone → Option RangedState → GiveBurst (Option RangedState)
after_giving zero c outs m = no_calls m
after_giving (suc n) c outs m =
    let b = after_giving n c outs m in with_call c (slice_get outs (length b.given)) b

-- the room of a result is written whole; a room without one stays as it was
abbrev pub IsRoomOf : Option Given → Option RawDone → Option RawDone → Type 0
IsRoomOf (Some g) (Some before) (Some after) = IsWritten g before after
IsRoomOf (Some g) before after = ⊥
IsRoomOf None before after = after ≡ before

-- what is returned to C of one call of a burst
pub record IsTurnReturned (answer : Result (Option Given) Refusal) (returned next : RawBurst) (before after : RawDone) : Type 0 where
  pub given : next.given ≡ returned.given + length (option_to_list (given_in answer))
  pub made : next.made ≡ returned.made + count_of answer
  pub refusal : next.refusal ≡ code_of answer
  pub room : IsRoomOf (given_in answer) (Some before) (Some after)

-- What is returned to C: the numbers, and each result in the room of its place
pub record IsBurstReturned {S : Type 0} (b : GiveBurst S) (returned : RawBurst) (before after : List RawDone) : Type 0 where
  pub given : returned.given ≡ length b.given
  pub made : returned.made ≡ b.made
  pub refusal : returned.refusal ≡ b.refusal
  pub rooms : (i : ℕ) → IsRoomOf (slice_get b.given i) (slice_get before i) (slice_get after i)
