-- The calls of a seat one after another, each with what came of it, and the law of what is collected.
use Rattle.std.specs.Prelude.{◌≡◌, ◌==◌, ℕ, zero, suc, List, [], ◌∷◌, ◌++◌, length, map, min, drop, Option, None, Some, option_to_list, slice_get, Result, Ok, Err, if◌then◌else◌}
use Rattle.mbj_types.specs.declared.job.Job.{Job}
use Rattle.mbj_types.specs.Result.{result_of}
use Rattle.mbj_c.specs.declared.giving.RawDone.{RawDone}
use Rattle.mbj_c.specs.declared.job.RawJob.{RawJob}
use Rattle.mbj_c.specs.declared.refusal.Refusal.{Refusal}
use Rattle.mbj_c.specs.declared.refusal.Refusal.TheVariants.{Memory}
use Rattle.mbj_c.specs.Bursts.{GiveBurst, after_taking}
use Rattle.mbj_c.specs.Calls.{given_in, given_of}
use Rattle.mbj_c.specs.Codes.{refusal_code}
use Rattle.mbj_c.specs.Filling.{job_of_raw}
use Rattle.mbj_c.specs.Given.{Given}
use Rattle.mbj_c.specs.Ranges.{given_range}
use Rattle.mbj_c.specs.SeatBursts.{CollectAll, after_posting, post_behind}
use Rattle.mbj_c.specs.Seats.{Answers, SeatState, KeepsJobs, new_seat, posted, posted_in}

pub data SeatCall : Type 0 where
  -- a post of a job for which there is memory
  posts : RawJob → SeatCall
  -- posts of these jobs by one call, which returned these codes
  posts_burst : List RawJob → List ℕ → SeatCall
  -- a collect with room for a result, which answered this
  collects : RawDone → Result (Option Given) Refusal → SeatCall
  -- collects by one call, with these rooms, which gave these
  collects_burst : List RawDone → List Given → SeatCall
  -- a turn or a settle
  works : SeatCall

-- what a call makes of the seat, whatever the other seats do
abbrev pub SeatMakes : SeatCall → SeatState → SeatState → Type 0
SeatMakes (posts r) s t = t ≡ (posted_in r s).1
SeatMakes (posts_burst jobs codes) s t = Some t ≡ (after_posting jobs codes (Some s)).state
SeatMakes (collects out answer) s t = Answers s out answer t
SeatMakes (collects_burst outs given) s t =
    (b : GiveBurst (Option SeatState)) × (CollectAll (length outs) outs (Some s) b × ((given ≡ b.given) × (Some t ≡ b.state)))
SeatMakes works s t = KeepsJobs s t

-- the job of a post that isn't refused
abbrev pub jobs_if : Result Unit Refusal → Option Job → List Job
jobs_if (Ok u) j = option_to_list j
jobs_if (Err r) j = []

-- the job of this place of a burst, if it was posted
abbrev pub job_at : Option RawJob → Option ℕ → Option SeatState → List Job
job_at (Some r) (Some code) m = if code == refusal_code Memory then [] else jobs_if (posted r m).0 (job_of_raw r)
job_at r code m = []

-- those of the first n places
abbrev pub jobs_of_burst : ℕ → List RawJob → List ℕ → Option SeatState → List Job
jobs_of_burst zero jobs codes m = []
jobs_of_burst (suc n) jobs codes m =
    jobs_of_burst n jobs codes m ++ job_at (slice_get jobs n) (slice_get codes n) (after_taking post_behind n jobs codes m).state

abbrev pub jobs_posted : SeatCall → SeatState → List Job
jobs_posted (posts r) s = jobs_if (posted_in r s).0 (job_of_raw r)
jobs_posted (posts_burst jobs codes) s = jobs_of_burst (min (length jobs) (length codes)) jobs codes (Some s)
jobs_posted (collects out answer) s = []
jobs_posted (collects_burst outs given) s = []
jobs_posted works s = []

abbrev pub given_by : SeatCall → List Given
given_by (posts r) = []
given_by (posts_burst jobs codes) = []
given_by (collects out answer) = option_to_list (given_in answer)
given_by (collects_burst outs given) = given
given_by works = []

abbrev pub all_given : List SeatCall → List Given
all_given [] = []
all_given (c ∷ cs) = given_by c ++ all_given cs

-- the calls lead from s to t, one after another, and post these jobs
abbrev pub SeatMakesAll : List SeatCall → List Job → SeatState → SeatState → Type 0
SeatMakesAll [] js s t = (js ≡ []) × (t ≡ s)
SeatMakesAll (c ∷ cs) js s t =
    (u : SeatState) × ((more : List Job) × ((js ≡ jobs_posted c s ++ more) × (SeatMakes c s u × SeatMakesAll cs more u t)))

-- what was collected, and then what the jobs are owed that are out, is what the jobs are given back as that were posted: each result once,
-- in the order of the posts, and with the range of its own packet
pub record CollectsOwn (calls : List SeatCall) (js : List Job) (t : SeatState) : Type 0 where
  pub left : List Job
  pub order : all_given calls ++ map given_of left ≡ map given_of js
  pub due : drop t.part.handed t.part.due ≡ map result_of left
  pub ranges : t.ranges ≡ map given_range left

abbrev pub SeatsCollectInOrder : Type 0
SeatsCollectInOrder =
    (submitters p : ℕ) (calls : List SeatCall) (js : List Job) (t : SeatState) → SeatMakesAll calls js (new_seat submitters p) t → CollectsOwn calls js t

-- and where none is out it is all of them
abbrev pub SeatsCollectAll : Type 0
SeatsCollectAll =
    (submitters p : ℕ) (calls : List SeatCall) (js : List Job) (t : SeatState) → SeatMakesAll calls js (new_seat submitters p) t
    → length t.part.due ≡ t.part.handed → all_given calls ≡ map given_of js
