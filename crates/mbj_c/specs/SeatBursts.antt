-- What bursts of a seat come to: its single calls, one after another.
use Rattle.std.specs.Prelude.{◌≡◌, ℕ, zero, suc, List, length, min, Option, Some, None, slice_get, Result}
use Rattle.mbj_c.specs.declared.bursts.RawBurst.{RawBurst}
use Rattle.mbj_c.specs.declared.giving.RawDone.{RawDone}
use Rattle.mbj_c.specs.declared.job.RawJob.{RawJob}
use Rattle.mbj_c.specs.declared.refusal.Refusal.{Refusal}
use Rattle.mbj_c.specs.Bursts.{GiveBurst, IsBurstReturned, TakeBurst, after_taking, no_calls, with_answer}
use Rattle.mbj_c.specs.Given.{Given}
use Rattle.mbj_c.specs.Seats.{MayAnswer, SeatState, posted}

-- a post asks for no place of its own, however many jobs the burst posted
abbrev pub post_behind : ℕ → RawJob → Option SeatState → Result Unit Refusal × Option SeatState
post_behind taken r m = posted r m

-- what a burst of posts comes to, for which these codes were returned
abbrev pub after_posting : List RawJob → List ℕ → Option SeatState → TakeBurst (Option SeatState)
after_posting jobs codes m = after_taking post_behind (min (length jobs) (length codes)) jobs codes m

-- one collect more, with the room of the place that the next result has, made b from a
abbrev pub CollectsMore : Option RawDone → GiveBurst (Option SeatState) → GiveBurst (Option SeatState) → Type 0
CollectsMore None a b = ⊥
CollectsMore (Some out) a b =
    (answer : Result (Option Given) Refusal) × (MayAnswer a.state out answer b.state × (b ≡ with_answer (answer, b.state) a))

-- n collects came to b, one after another
abbrev pub CollectAll : ℕ → List RawDone → Option SeatState → GiveBurst (Option SeatState) → Type 0
CollectAll zero outs m b = b ≡ no_calls m
CollectAll (suc n) outs m b =
    (a : GiveBurst (Option SeatState)) × (CollectAll n outs m a × CollectsMore (slice_get outs (length a.given)) a b)

-- as many collects as there are rooms, and what is returned to C of them
pub record IsBurstCollected (before : Option SeatState) (outs : List RawDone) (returned : RawBurst) (rooms : List RawDone) (after : Option SeatState) : Type 0 where
  pub calls : GiveBurst (Option SeatState)
  pub made : CollectAll (length outs) outs before calls
  pub state : after ≡ calls.state
  pub is_returned : IsBurstReturned calls returned outs rooms
