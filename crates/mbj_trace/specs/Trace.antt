-- What a trace prints: what each call of one manager gives back.
use Rattle.std.specs.Prelude.{◌==◌, ◌+◌, ℕ, zero, suc, List, [], ◌∷◌, ◌++◌, length, flat_map, is_some, option_map, Option, if◌then◌else◌}
use Rattle.mbj_types.specs.declared.job.Job.{Job}
use Rattle.mbj_types.specs.declared.done.Done.{Done}
use Rattle.mbj_types.specs.declared.kind.Kind.{Kind}
use Rattle.mbj_types.specs.Kinds.{all_kinds}
use Rattle.mbj_ring.specs.declared.ring.TheConstants.{CELLS}
use Rattle.mbj_manager.specs.Machine.Queues.{Machine, queue_for}
use Rattle.mbj_manager.specs.State.{ManagerState, new_manager, with_open, after_submit, after_get_completed, after_flush}
use Rattle.mbj_text.specs.Telling.{Told, then_told}
use Rattle.mbj_trace.specs.Lines.{line_text}
use Rattle.mbj_trace.specs.declared.line.TraceLine.{TraceLine}
use Rattle.mbj_trace.specs.declared.line.TraceLine.TheVariants as line
use Rattle.mbj_trace.specs.declared.tracer.Taking.{Taking}
use Rattle.mbj_trace.specs.declared.tracer.Taking.TheVariants as taking

-- the manager, and how many jobs it gave back: since they come back in order, that is the number of the next one
pub record Tracing : Type 0 where
  pub manager : ManagerState
  pub given : ℕ

abbrev pub new_tracing : Tracing
new_tracing = record { manager = new_manager; given = 0 }

abbrev pub Traced : Type 0
Traced = Told TraceLine Tracing

-- a call of the manager is told in one line; the job that it gives back, if it gives one, is told by its number
abbrev pub call_told : (Option ℕ → TraceLine) → (ManagerState → Option Done × ManagerState) → Tracing → Traced
call_told line call t =
    let a = call t.manager in
    (line (option_map (λ _. t.given) a.0) ∷ [], record { manager = a.1; given = if is_some a.0 then t.given + 1 else t.given })

-- ---- submitting

-- if no cell is left, that is told, and the earliest job is flushed
abbrev pub room_told : Tracing → Traced
room_told t =
    if length t.manager.owed == CELLS then then_told (line.Full ∷ [], t) (call_told line.Flush after_flush) else ([], t)

-- once there is room, job n is written into the next cell and submitted
abbrev pub job_told : ℕ → Job → Tracing → Traced
job_told n j t = then_told (room_told t) (call_told (line.Submit n) (λ h. after_submit (with_open h j)))

-- the jobs from number n on
abbrev pub jobs_told : ℕ → List Job → Tracing → Traced
jobs_told n [] t = ([], t)
jobs_told n (j ∷ jobs) t = then_told (job_told n j t) (jobs_told (n + 1) jobs)

-- ---- taking back

abbrev pub take_told : Taking → Tracing → Traced
take_told taking.Completed t = call_told line.Completed after_get_completed t
take_told taking.Flushed t = call_told line.Flush after_flush t

-- one call after another until one gives nothing back; at most as many calls give one back as jobs are owed
abbrev pub takes_told : Taking → ℕ → Tracing → Traced
takes_told how zero t = take_told how t
takes_told how (suc jobs) t =
    let one = take_told how t in if one.1.given == t.given then one else then_told one (takes_told how jobs)

abbrev pub traced : Taking → Tracing → Traced
traced how t = takes_told how (length t.manager.owed) t

-- ---- the counts

-- the rounds and blocks of a kind whose lists ran
abbrev pub count_lines : Machine → Kind → List TraceLine
count_lines m k = let l = queue_for k m in if l.rounds == 0 then [] else line.Rounds k l.rounds l.blocks ∷ []

-- ---- the whole

-- after the last job: what is finished, then what a flush finishes
abbrev pub calls_told : List Job → Traced
calls_told jobs = then_told (then_told (jobs_told 0 jobs new_tracing) (traced taking.Completed)) (traced taking.Flushed)

-- the counts come last
unfoldable pub trace_lines : List Job → List TraceLine
trace_lines jobs = (calls_told jobs).0 ++ flat_map (count_lines (calls_told jobs).1.manager.machine) all_kinds

abbrev pub trace_text : List Job → List ℕ
trace_text jobs = flat_map line_text (trace_lines jobs)
