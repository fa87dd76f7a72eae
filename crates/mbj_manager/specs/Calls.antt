-- The calls of a manager one after another, and the law of what they give back.
use Rattle.std.specs.Prelude.{◌≡◌, ◌==◌, Bool, false, List, [], ◌∷◌, ◌++◌, drop, length, map, Option, None, option_to_list, if◌then◌else◌, Some, take, ℕ}
use Rattle.mbj_types.specs.declared.job.Job.{Job}
use Rattle.mbj_types.specs.declared.done.Done.{Done}
use Rattle.mbj_types.specs.Result.{result_of}
use Rattle.mbj_ring.specs.declared.ring.TheConstants.{CELLS}
use Rattle.mbj_keys.specs.Sessions.{Known}
use Rattle.mbj_stage.specs.Handing.{without_packet}
use Rattle.mbj_manager.specs.State.{ManagerState, new_manager, lent, with_open, after_get_completed, after_submit_by, finds, after_flush, after_get_next_burst, with_open_at}

-- a call, or a write of an open job
pub data Call : Type 0 where
  get_next : Call
  get_next_burst : ℕ → Call
  write : ℕ → Job → Call
  submit : Call
  submit_in : List Known → Call
  get_completed : Call
  flush : Call

-- only an open job is submitted, whose key's schedule is found or isn't
abbrev pub submitted_at : Bool → List Job → ManagerState → Option Done × ManagerState
submitted_at found [] h = (None, h)
submitted_at found (j ∷ js) h = after_submit_by found h

-- what a call gives back, and the state after it: only an open job is written
abbrev pub called : Call → ManagerState → Option Done × ManagerState
called get_next h = (None, if length h.owed == CELLS then h else with_open h (lent h))
called (get_next_burst n) h = (None, after_get_next_burst n h)
called (write i j) h = (None, with_open_at h i j)
called submit h = submitted_at false h.opened h
called (submit_in notes) h = submitted_at (finds notes h.opened) h.opened h
called get_completed h = after_get_completed h
called flush h = after_flush h

-- the jobs that a call submits
abbrev pub jobs_in : Call → ManagerState → List Job
jobs_in submit h = take 1 h.opened
jobs_in (submit_in notes) h = take 1 h.opened
jobs_in _ h = []

-- what the calls give back, in order
unfoldable pub given_back : List Call → ManagerState → List Done
given_back [] h = []
given_back (c ∷ cs) h = option_to_list (called c h).0 ++ given_back cs (called c h).1

-- the jobs that the calls submit, each as it is when it is submitted, in order
unfoldable pub jobs_submitted : List Call → ManagerState → List Job
jobs_submitted [] h = []
jobs_submitted (c ∷ cs) h = jobs_in c h ++ jobs_submitted cs (called c h).1

unfoldable pub after_calls : List Call → ManagerState → ManagerState
after_calls [] h = h
after_calls (c ∷ cs) h = after_calls cs (called c h).1

-- flushes one after another, each of which gives the next of these results back, lead from h to the end
abbrev pub FlushesEach : List Done → ManagerState → ManagerState → Type 0
FlushesEach [] h end = end ≡ h
FlushesEach (d ∷ ds) h end = ((after_flush h).0 ≡ Some d) × FlushesEach ds (after_flush h).1 end

-- what is given back, and then what is still owed, are the results of what was submitted, each once and in order
abbrev pub GivesInOrder : List Call → Type 0
GivesInOrder cs = given_back cs new_manager ++ (after_calls cs new_manager).owed ≡ map result_of (jobs_submitted cs new_manager)

-- what a manager has of the jobs whose results it owes is what was asked for the last of those that were submitted
abbrev pub HoldsTheRest : List Call → Type 0
HoldsTheRest cs = (after_calls cs new_manager).jobs
    ≡ drop (length (given_back cs new_manager)) (map without_packet (jobs_submitted cs new_manager))
