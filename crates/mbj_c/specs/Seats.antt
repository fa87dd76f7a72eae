-- What a contract sees of a seat of the shared front, and what a submitter's and any party's calls make of it.
use Rattle.std.specs.Prelude.{◌≡◌, ◌≢◌, ℕ, zero, suc, ◌+◌, ◌-◌, nat_le, nat_lt, nat_eq, Bool, true, false, ◌&&◌, List, [], ◌∷◌, ◌++◌, drop, take, map, length, Option, Some, None, Result, Ok, Err, MatchBool, slice_get, if◌then◌else◌}
use Rattle.mbj_types.specs.declared.job.Job.{Job}
use Rattle.mbj_types.specs.declared.done.Done.{Done}
use Rattle.mbj_types.specs.Result.{result_of}
use Rattle.mbj_core.specs.declared.cells.TheConstants.{MAX_SUBMITTERS, MAX_WORKERS, SUBMITTER_CELLS}
use Rattle.mbj_core.specs.declared.party.View.{View}
use Rattle.mbj_core.specs.Parties.{new_party}
use Rattle.mbj_front.specs.Views.{after_publish}
use Rattle.mbj_work.specs.Parties.{after_collect, CollectsNothing, KeepsDue}
use Rattle.mbj_work.specs.Turns.{ClaimsInTurn}
use Rattle.mbj_c.specs.declared.giving.RawDone.{RawDone}
use Rattle.mbj_c.specs.declared.job.RawJob.{RawJob}
use Rattle.mbj_c.specs.declared.range.CipherRange.{CipherRange}
use Rattle.mbj_c.specs.declared.refusal.Refusal.{Refusal}
use Rattle.mbj_c.specs.declared.refusal.Refusal.TheVariants as refusal
use Rattle.mbj_c.specs.Filling.{job_of_raw}
use Rattle.mbj_c.specs.Given.{Given}
use Rattle.mbj_c.specs.Giving.{IsReturned, has_room_for}
use Rattle.mbj_c.specs.Ranges.{given_range}

pub record SeatState : Type 0 where
  -- its party's part of the front
  pub part : View Done
  -- how many submitters the front has
  pub submitters : ℕ
  -- the ranges that its jobs give back which are out, in the order of its posts
  pub ranges : List CipherRange

-- the seat of party p, which has done nothing
abbrev pub new_seat : ℕ → ℕ → SeatState
new_seat submitters p = record { part = new_party p; submitters = submitters; ranges = [] }

abbrev pub is_submitter : SeatState → Bool
is_submitter s = nat_lt s.part.number s.submitters

-- ---- posting

abbrev pub after_post : Job → SeatState → SeatState
after_post j s = record s { part = after_publish s.part (result_of j); ranges = s.ranges ++ given_range j ∷ [] }

abbrev pub posted_with : Option Job → SeatState → Result Unit Refusal × SeatState
posted_with None s = (Err refusal.Word, s)
posted_with (Some j) s = (Ok tt, after_post j s)

-- what a post comes to if there is memory
abbrev pub posted_in : RawJob → SeatState → Result Unit Refusal × SeatState
posted_in r s =
    if is_submitter s
    then (if nat_eq (length s.part.due) (s.part.handed + SUBMITTER_CELLS) then (Err refusal.Full, s) else posted_with (job_of_raw r) s)
    else (Err refusal.NotSubmitter, s)

abbrev pub posted : RawJob → Option SeatState → Result Unit Refusal × Option SeatState
posted r None = (Err refusal.NoSeat, None)
posted r (Some s) = ((posted_in r s).0, Some (posted_in r s).1)

-- ---- collecting

-- the earliest job that is out was finished and its result collected, or nothing was
abbrev pub Collects : Option Given → SeatState → SeatState → Type 0
Collects None s t = CollectsNothing s.part t.part × (t.submitters ≡ s.submitters) × (t.ranges ≡ s.ranges)
Collects (Some g) s t =
    (slice_get s.part.due s.part.handed ≡ Some g.done) × (slice_get s.ranges 0 ≡ Some g.range)
    × (t ≡ record s { part = after_collect s.part; ranges = drop 1 s.ranges })

-- a worker has no jobs of its own; and there has to be room for the range of the earliest job that is out, finished or not
abbrev pub collect_refusal : SeatState → RawDone → Option Refusal
collect_refusal s out =
    if is_submitter s then (if has_room_for (slice_get s.ranges 0) out then None else Some refusal.NoRoom) else Some refusal.NotSubmitter

-- a collect that something speaks against is refused for it, and changes nothing; another one gives the earliest result or nothing
abbrev pub AnswersBy : Option Refusal → Result (Option Given) Refusal → SeatState → SeatState → Type 0
AnswersBy None (Ok given) s t = Collects given s t
AnswersBy None (Err r) s t = ⊥
AnswersBy (Some r) answer s t = (answer ≡ Err r) × (t ≡ s)

-- what a collect with this room may answer, and what that makes of the seat
abbrev pub Answers : SeatState → RawDone → Result (Option Given) Refusal → SeatState → Type 0
Answers s out answer t = AnswersBy (collect_refusal s out) answer s t

abbrev pub MayAnswer : Option SeatState → RawDone → Result (Option Given) Refusal → Option SeatState → Type 0
MayAnswer None out answer None = answer ≡ Err refusal.NoSeat
MayAnswer (Some s) out answer (Some t) = Answers s out answer t
MayAnswer s out answer t = ⊥

-- what the collect answers is returned to C
abbrev pub IsCollectedIn : SeatState → SeatState → Bool → ℕ → RawDone → RawDone → Type 0
IsCollectedIn s t flag code before after =
    (answer : Result (Option Given) Refusal) × (Answers s before answer t × IsReturned answer flag code before after)

abbrev pub IsCollected : Option SeatState → Option SeatState → Bool → ℕ → RawDone → RawDone → Type 0
IsCollected s t flag code before after =
    (answer : Result (Option Given) Refusal) × (MayAnswer s before answer t × IsReturned answer flag code before after)

-- ---- working

-- what is due, handed out and kept of ranges stays
pub record KeepsJobs (s t : SeatState) : Type 0 where
  pub part : KeepsDue s.part t.part
  pub submitters : t.submitters ≡ s.submitters
  pub ranges : t.ranges ≡ s.ranges

abbrev pub KeepsJobsIn : Option SeatState → Option SeatState → Type 0
KeepsJobsIn None None = Unit {0}
KeepsJobsIn (Some s) (Some t) = KeepsJobs s t
KeepsJobsIn s t = ⊥

-- this many claims came to the end of the hand, and some left at its front; if there is no seat, none
abbrev pub ClaimsIn : ℕ → Option SeatState → Option SeatState → Type 0
ClaimsIn n None t = n ≡ 0
ClaimsIn n (Some s) None = ⊥
ClaimsIn n (Some s) (Some t) = ClaimsInTurn n s.part.hand t.part.hand

abbrev pub hand_in : Option SeatState → ℕ
hand_in None = 0
hand_in (Some s) = length s.part.hand

abbrev pub out_in : Option SeatState → ℕ
out_in None = 0
out_in (Some s) = length s.part.due - s.part.handed

-- false exactly where the hand is empty, or there is no seat; nothing changes then
abbrev pub IsSettled : Bool → Option SeatState → Option SeatState → Type 0
IsSettled flag s t = MatchBool flag (hand_in s ≢ 0) ((hand_in s ≡ 0) × (t ≡ s))

-- ---- making a front

-- the seats of the parties from p on, n of them
abbrev pub new_seats : ℕ → ℕ → ℕ → List SeatState
new_seats submitters p zero = []
new_seats submitters p (suc n) = new_seat submitters p ∷ new_seats submitters (p + 1) n

abbrev pub has_seat : List (Option SeatState) → Bool
has_seat [] = false
has_seat (None ∷ seats) = has_seat seats
has_seat (Some s ∷ seats) = true

-- a front has 1 to 16 submitters and at most 16 workers
abbrev pub are_counts : ℕ → ℕ → Bool
are_counts submitters workers = nat_le 1 submitters && nat_le submitters MAX_SUBMITTERS && nat_le workers MAX_WORKERS

-- why no front is made: its counts, too few places, or a place that holds a seat
abbrev pub front_refusal : ℕ → ℕ → List (Option SeatState) → Option Refusal
front_refusal submitters workers places =
    if are_counts submitters workers
    then (if nat_lt (length places) (submitters + workers) then Some refusal.NoRoom
    else (if has_seat (take (submitters + workers) places) then Some refusal.HasSeat else None))
    else Some refusal.SeatCount

-- the first places hold the seats of its parties, in the order of their numbers, submitters first; the others stay
abbrev pub seats_made : ℕ → ℕ → List (Option SeatState) → List (Option SeatState)
seats_made submitters workers places = map Some (new_seats submitters 0 (submitters + workers)) ++ drop (submitters + workers) places
