-- What a contract sees of a manager, and what each call makes of it.
use Rattle.std.specs.Prelude.{◌≡◌, ◌≢◌, ◌==◌, ◌+◌, ◌-◌, ◌%◌, Bool, false, List, [], ◌∷◌, ◌++◌, drop, length, map, Option, Some, None, slice_get, if◌then◌else◌, min, replicate, set, slice_index_or, ℕ}
use Rattle.mbj_types.specs.declared.job.Job.{Job}
use Rattle.mbj_types.specs.declared.done.Done.{Done}
use Rattle.mbj_types.specs.Blank.{blank}
use Rattle.mbj_types.specs.Result.{result_of}
use Rattle.mbj_ring.specs.declared.ring.TheConstants.{CELLS}
use Rattle.mbj_keys.specs.Sessions.{Known, knows_key}
use Rattle.mbj_stage.specs.CourseState.{begun}
use Rattle.mbj_stage.specs.Keys.{counts_expansion}
use Rattle.mbj_stage.specs.Handing.{without_packet}
use Rattle.mbj_manager.specs.Machine.Stages.{Pending, pending}
use Rattle.mbj_manager.specs.Machine.Queues.{WaitingJob, Queue, Machine, count_end, idle_queue, queue_for}
use Rattle.mbj_manager.specs.declared.lane.Cause.TheVariants as cause
use Rattle.mbj_manager.specs.Machine.Course.{course, flushed}

pub record ManagerState : Type 0 where
  -- the results of the jobs that are submitted and not given back, in the order of submission
  pub owed : List Done
  -- what is asked for each of them: its job without its packet
  pub jobs : List Job
  -- the jobs that are being filled, the first opened first
  pub opened : List Job
  -- where the submitted jobs stand
  pub machine : Machine
  -- for how many submitted jobs the key of the cipher is expanded, modulo 2^64
  pub expansions : ℕ

-- a manager with no job and no open one, and with lanes in which no job waits and nothing ran
abbrev pub new_manager : ManagerState
new_manager = record {
  owed = [];
  jobs = [];
  opened = [];
  machine = record { left = []; lanes = λ k. idle_queue; agenda = []; flush_runs = 0 };
  expansions = 0;
}

-- ---- get_next

-- the job that is lent: the first open one, or a blank one if none is open
abbrev pub lent : ManagerState → Job
lent h = slice_index_or h.opened 0 blank

-- what is written there is the first open job; the others stay
abbrev pub with_open : ManagerState → Job → ManagerState
with_open h j = record h { opened = j ∷ drop 1 h.opened }

-- what is written into open cell i
abbrev pub with_open_at : ManagerState → ℕ → Job → ManagerState
with_open_at h i j = record h { opened = set h.opened i j }

-- the job is open behind the others
abbrev pub with_open_last : ManagerState → Job → ManagerState
with_open_last h j = record h { opened = h.opened ++ j ∷ [] }

-- ---- get_next_burst

-- n more blank jobs are open, behind the others
abbrev pub with_blanks : ℕ → ManagerState → ManagerState
with_blanks n h = record h { opened = h.opened ++ replicate n blank }

-- blank jobs are opened until n are open, or a cell is left for no more
abbrev pub after_get_next_burst : ℕ → ManagerState → ManagerState
after_get_next_burst n h = with_blanks (min n (CELLS - length h.owed) - length h.opened) h

-- ---- giving back

-- the lanes of a kind once the first job left: each number is one lower
abbrev pub renumbered : Queue → Queue
renumbered l = record l { waiting = map (λ (w : WaitingJob). record w { number = w.number - 1 }) l.waiting }

-- the earliest job's result is given back if that job is finished
abbrev pub given_at : List Done → List (List Pending) → ManagerState → Option Done × ManagerState
given_at (d ∷ ds) ([] ∷ left) h =
    (Some d, record h { owed = ds; jobs = drop 1 h.jobs; machine = record h.machine { left = left; lanes = λ k. renumbered (queue_for k h.machine) } })
given_at ds left h = (None, h)

abbrev pub after_get_completed : ManagerState → Option Done × ManagerState
after_get_completed h = given_at h.owed h.machine.left h

-- there is an earliest job, and no stage of it is left
pub record IsEarliestFinished (h : ManagerState) : Type 0 where
  pub some : h.owed ≢ []
  pub done : slice_get h.machine.left 0 ≡ Some []

-- ---- submit

-- the job goes last among those that are submitted, and the course is followed from it; the jobs js stay open
abbrev pub with_job : Job → List Job → ManagerState → ManagerState
with_job j js h = record h {
  owed = h.owed ++ result_of j ∷ [];
  jobs = h.jobs ++ without_packet j ∷ [];
  opened = js;
  machine = course cause.Submit (record h.machine {
    left = h.machine.left ++ pending (begun j) ∷ [];
    agenda = length h.owed ∷ [];
  });
}

-- the first open job is submitted as it is
abbrev pub entered_at : List Job → ManagerState → ManagerState
entered_at [] h = h
entered_at (j ∷ js) h = with_job j js h

abbrev pub entered : ManagerState → ManagerState
entered h = entered_at h.opened h

-- how many keys are expanded for the first open job, whose schedule is found or isn't
abbrev pub expanded_for : Bool → List Job → ℕ
expanded_for found [] = 0
expanded_for found (j ∷ js) = if counts_expansion found j then 1 else 0

-- the state g, with the key of the job that was the first open one in h counted if it is expanded
abbrev pub counted : Bool → ManagerState → ManagerState → ManagerState
counted found h g = record g { expansions = (h.expansions + expanded_for found h.opened) % count_end }

abbrev pub after_submit_by : Bool → ManagerState → Option Done × ManagerState
after_submit_by found h = after_get_completed (counted found h (entered h))

-- no entry of shared keys is at hand
abbrev pub after_submit : ManagerState → Option Done × ManagerState
after_submit h = after_submit_by false h

-- whether the notes know an entry of the first open job's session with the job's key
abbrev pub finds : List Known → List Job → Bool
finds notes [] = false
finds notes (j ∷ js) = knows_key notes j.session j.key

-- the notes are those of the submitting thread
abbrev pub after_submit_in : List Known → ManagerState → Option Done × ManagerState
after_submit_in notes h = after_submit_by (finds notes h.opened) h

-- ---- flush

abbrev pub after_flush : ManagerState → Option Done × ManagerState
after_flush h = after_get_completed (record h { machine = flushed h.machine })

-- ---- room for a job

-- if no cell is left, the earliest job is flushed
abbrev pub after_making_room : ManagerState → Option Done × ManagerState
after_making_room h = if length h.owed == CELLS then after_flush h else (None, h)
