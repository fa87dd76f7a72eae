-- What the calls come to that may give a result back.
use Rattle.std.specs.Prelude.{◌≡◌, ℕ, Bool, true, false, ◌&&◌, nat_le, nat_lt, List, [], ◌++◌, length, map, drop, take, Option, Some, None, option_map, option_to_list, slice_get, Result, Ok, Err, if◌then◌else◌}
use Rattle.mbj_types.specs.declared.done.Done.{Done}
use Rattle.mbj_types.specs.declared.job.Job.{Job}
use Rattle.mbj_types.specs.declared.limits.TheConstants.{MAX_TAG_BYTES}
use Rattle.mbj_types.specs.Result.{result_of}
use Rattle.mbj_keys.specs.Sessions.{Known}
use Rattle.mbj_manager.specs.Machine.Course.{flushed}
use Rattle.mbj_manager.specs.State.{ManagerState, after_submit_by, after_get_completed, after_flush, counted, entered, finds}
use Rattle.mbj_c.specs.declared.giving.Call.{Call}
use Rattle.mbj_c.specs.declared.giving.Call.TheVariants as call
use Rattle.mbj_c.specs.Given.{Given}
use Rattle.mbj_c.specs.declared.giving.RawDone.{RawDone}
use Rattle.mbj_c.specs.declared.range.CipherRange.{CipherRange}
use Rattle.mbj_c.specs.declared.refusal.Refusal.{Refusal}
use Rattle.mbj_c.specs.declared.refusal.Refusal.TheVariants.{NoManager, NoJob, NoRoom}
use Rattle.mbj_c.specs.Codes.{code_of, reason_code, status_code}
use Rattle.mbj_c.specs.Ranges.{bytes_in}
use Rattle.mbj_c.specs.State.{RangedState}

-- ---- the manager

-- whether the schedule of the first open job's key is found: a set of key sessions is used, and the job names one with its key
abbrev pub found_by : Option (List Known) → List Job → Bool
found_by None opened = false
found_by (Some notes) opened = finds notes opened

-- what the call gives back, and what it makes of the manager
abbrev pub manager_step : Call → Option (List Known) → ManagerState → Option Done × ManagerState
manager_step call.Submit notes m = after_submit_by (found_by notes m.opened) m
manager_step call.Completed notes m = after_get_completed m
manager_step call.Flush notes m = after_flush m

-- the manager once the call is made, but for giving back
abbrev pub made_by : Call → Option (List Known) → ManagerState → ManagerState
made_by call.Submit notes m = counted (found_by notes m.opened) m (entered m)
made_by call.Completed notes m = m
made_by call.Flush notes m = record m { machine = flushed m.machine }

-- the results that are owed once the call's job, if it has one, is submitted: the first one is the one that may be given back
abbrev pub owed_in : Call → ManagerState → List Done
owed_in call.Submit m = m.owed ++ map result_of (take 1 m.opened)
owed_in call.Completed m = m.owed
owed_in call.Flush m = m.owed

-- the job that the call submits, if it submits one
abbrev pub job_entered : Call → List Job → List Job
job_entered call.Submit opened = take 1 opened
job_entered call.Completed opened = []
job_entered call.Flush opened = []

-- ---- the ranges

-- the range that joins those that are kept, and what is left of the open jobs'
abbrev pub ranges_entered : Call → List CipherRange → List CipherRange
ranges_entered call.Submit filled = take 1 filled
ranges_entered call.Completed filled = []
ranges_entered call.Flush filled = []

abbrev pub filled_after : Call → List CipherRange → List CipherRange
filled_after call.Submit filled = drop 1 filled
filled_after call.Completed filled = filled
filled_after call.Flush filled = filled

-- the ranges of the results that are owed once the call's job is submitted
abbrev pub ranges_in : Call → RangedState → List CipherRange
ranges_in c k = k.ranges ++ ranges_entered c k.filled

-- that of the result that may be given back
abbrev pub first_range : Call → RangedState → Option CipherRange
first_range c k = slice_get (ranges_in c k) 0

-- the result that is given back, with the first range
abbrev pub given_with : Option Done → List CipherRange → Option Given
given_with None rs = None
given_with (Some d) rs = option_map (λ r. record { done = d; range = r }) (slice_get rs 0)

-- ---- a call

-- what the call gives back, and what it makes of the state: a range goes with its result
abbrev pub step : Call → RangedState → Option Given × RangedState
step c k =
    let done = (manager_step c k.notes k.manager).0 in (
      given_with done (ranges_in c k),
      record {
        manager = (manager_step c k.notes k.manager).1;
        ranges = drop (length (option_to_list done)) (ranges_in c k);
        filled = filled_after c k.filled;
        notes = k.notes;
      },
    )

-- the state once the call is made, but for giving back
abbrev pub gone : Call → RangedState → RangedState
gone c k = record {
  manager = made_by c k.notes k.manager;
  ranges = ranges_in c k;
  filled = filled_after c k.filled;
  notes = k.notes;
}

-- the first result is given back if it is finished
abbrev pub given_first : RangedState → Option Given × RangedState
given_first k =
    let done = (after_get_completed k.manager).0 in (
      given_with done k.ranges,
      record {
        manager = (after_get_completed k.manager).1;
        ranges = drop (length (option_to_list done)) k.ranges;
        filled = k.filled;
        notes = k.notes;
      },
    )

-- a job is open if the call submits it
abbrev pub has_job : Call → ManagerState → Bool
has_job call.Submit m = nat_lt 0 (length m.opened)
has_job call.Completed m = true
has_job call.Flush m = true

-- there is room for the bytes of this range, if there is one, and for any tag
abbrev pub has_room_for : Option CipherRange → RawDone → Bool
has_room_for None out = true
has_room_for (Some r) out = nat_le r.len (length out.dst.now) && nat_le MAX_TAG_BYTES (length out.tag.now)

-- a call is refused if it lacks the job that it submits, and if there is too little room for the first result that is owed,
-- whether that one is finished or not
abbrev pub refusal_in : Call → RangedState → RawDone → Option Refusal
refusal_in c k out =
    if has_job c k.manager then (if has_room_for (first_range c k) out then None else Some NoRoom) else Some NoJob

-- a refused call changes nothing
abbrev pub called_by : Option Refusal → Call → RangedState → Result (Option Given) Refusal × RangedState
called_by None c k = (Ok (step c k).0, (step c k).1)
called_by (Some r) c k = (Err r, k)

abbrev pub called_in : Call → RangedState → RawDone → Result (Option Given) Refusal × RangedState
called_in c k out = called_by (refusal_in c k out) c k

abbrev pub answered : Call → Option RangedState → RawDone → Result (Option Given) Refusal × Option RangedState
answered c None out = (Err NoManager, None)
answered c (Some k) out = ((called_in c k out).0, Some (called_in c k out).1)

-- ---- what is returned to C

-- the bytes that are given back of a packet
abbrev pub bytes_given : Given → List ℕ
bytes_given g = bytes_in g.range g.done.packet

-- the result is written whole, at the front of its room: of its packet the range
pub record IsWritten (g : Given) (before after : RawDone) : Type 0 where
  pub dst : after.dst.now ≡ bytes_given g ++ drop (length (bytes_given g)) before.dst.now
  pub dst_len : after.dst_len ≡ length (bytes_given g)
  pub tag : after.tag.now ≡ g.done.tag ++ drop (length g.done.tag) before.tag.now
  pub tag_len : after.tag_len ≡ length g.done.tag
  pub status : after.status ≡ status_code g.done.status
  pub reason : after.reason ≡ reason_code g.done.status

abbrev pub IsReturnedAt : Result (Option Given) Refusal → Bool → RawDone → RawDone → Type 0
IsReturnedAt (Ok (Some g)) flag before after = (flag ≡ true) × IsWritten g before after
IsReturnedAt (Ok None) flag before after = (flag ≡ false) × (after ≡ before)
IsReturnedAt (Err r) flag before after = (flag ≡ false) × (after ≡ before)

-- What is returned to C: the flag is true exactly where a result is given back, which is then written whole; else the room stays as it
-- was. The code says whether the call was refused, and why
pub record IsReturned (answer : Result (Option Given) Refusal) (flag : Bool) (code : ℕ) (before after : RawDone) : Type 0 where
  pub result : IsReturnedAt answer flag before after
  pub refusal : code ≡ code_of answer

-- there is a manager, and nothing is owed
abbrev pub IsDrained : Option RangedState → Type 0
IsDrained None = ⊥
IsDrained (Some k) = k.manager.owed ≡ []
