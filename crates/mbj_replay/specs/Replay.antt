-- What a replay prints: what each command of a script comes to, over one front and a manager for each worker.
use Rattle.std.specs.Prelude.{◌==◌, ◌+◌, ◌*◌, ◌<◌, ℕ, List, [], ◌∷◌, ◌++◌, flat_map, length, map, replicate, set, slice_get, slice_index, slice_index_or, Option, Some, None, option_to_list, if◌then◌else◌}
use Rattle.std.specs.List.{range_with_len}
use Rattle.mbj_types.specs.declared.job.Job.{Job}
use Rattle.mbj_types.specs.declared.done.Done.{Done}
use Rattle.mbj_core.specs.Cells.{Cell, ready, done, cell_of}
use Rattle.mbj_core.specs.CoreStates.{CoreState, new_core, cell_in, claimed_by, finished, first_cell, hand_in, with_result_collected, jobs_out, next_cell, out_of, posted}
use Rattle.mbj_core.specs.declared.cells.TheConstants.{SUBMITTER_CELLS}
use Rattle.mbj_ring.specs.declared.ring.TheConstants as ring
use Rattle.mbj_manager.specs.State.{ManagerState, after_flush, new_manager, after_submit, with_open}
use Rattle.mbj_text.specs.declared.command.Cmd.{Cmd}
use Rattle.mbj_text.specs.declared.command.Cmd.TheVariants as command
use Rattle.mbj_replay.specs.Lines.{replay_line_text}
use Rattle.mbj_replay.specs.declared.line.ReplayLine.{ReplayLine}
use Rattle.mbj_replay.specs.declared.line.ReplayLine.TheVariants as line

-- Jobs are known by their numbers in the file. Job i is that of submitter i modulo the number of submitters, and a
-- submitter posts its jobs in the order of the file.
pub record Replaying : Type 0 where
  pub core : CoreState
  -- the manager of each worker
  pub managers : List ManagerState
  -- for each submitter, the number of its next job
  pub nexts : List ℕ
  -- for each cell, the number of the job that was last posted there
  pub numbers : List ℕ

abbrev pub new_replay : ℕ → ℕ → Replaying
new_replay submitters workers = record {
  core = new_core submitters workers;
  managers = replicate workers new_manager;
  nexts = range_with_len 0 submitters;
  numbers = replicate (SUBMITTER_CELLS * submitters) 0;
}

-- the party of a worker, its manager, and the cells in its hand
abbrev pub party : ℕ → Replaying → ℕ
party w r = r.core.submitters + w

abbrev pub manager : ℕ → Replaying → ManagerState
manager w r = slice_index_or r.managers w new_manager

abbrev pub hand : ℕ → Replaying → List ℕ
hand w r = hand_in r.core (party w r)

-- the number of the job in a cell
abbrev pub cell_number : Replaying → ℕ → ℕ
cell_number r cell = slice_index r.numbers cell

-- the lines that a command prints, and the state after it
abbrev pub Replayed : Type 0
Replayed = List ReplayLine × Replaying

-- ---- post

-- the job n is posted, and the submitter's next job is as many further on as there are submitters
abbrev pub with_post : ℕ → ℕ → Job → Replaying → Replaying
with_post s n job r = record r {
  core = posted r.core s job;
  nexts = set r.nexts s (n + r.core.submitters);
  numbers = set r.numbers (next_cell r.core s) n;
}

-- if there is no job n, there is nothing to post; if all cells of the submitter are out, the job stays the next one
abbrev pub post_of : ℕ → ℕ → Option Job → Replaying → Replayed
post_of s n None r = (line.PostEnd s ∷ [], r)
post_of s n (Some job) r =
    if out_of r.core s == SUBMITTER_CELLS then (line.PostFull s ∷ [], r) else (line.Post s n ∷ [], with_post s n job r)

-- ---- what a worker's manager gives back

-- it goes into the first cell of the worker's hand, whose job is finished so; its number, if there is one, is told
abbrev pub finish_told : (Option ℕ → List ReplayLine) → ℕ → List ℕ → Option Done → Replaying → Replayed
finish_told lines w (cell ∷ cells) (Some d) r =
    (lines (Some (cell_number r cell)), record r { core = finished r.core (party w r) cell d })
finish_told lines w _ _ r = (lines None, r)

-- the worker's manager answered so when it was called
abbrev pub answer_told : (Option ℕ → List ReplayLine) → ℕ → Option Done × ManagerState → Replaying → Replayed
answer_told lines w answer r = finish_told lines w (hand w r) answer.0 (record r { managers = set r.managers w answer.1 })

-- ---- claim

-- the cells of a submitter's jobs that are out, the earliest first
abbrev pub cells_out : CoreState → ℕ → List ℕ
cells_out c s = map (cell_of s) (range_with_len (jobs_out c s).first (out_of c s))

abbrev pub job_or : Option (Cell Job Done) → ℕ → Option (ℕ × Job) → Option (ℕ × Job)
job_or (Some (ready job)) cell later = Some (cell, job)
job_or _ cell later = later

-- the first of the cells that holds a job that no party has claimed, and that job
abbrev pub first_ready : CoreState → List ℕ → Option (ℕ × Job)
first_ready c [] = None
first_ready c (cell ∷ cells) = job_or (cell_in c cell) cell (first_ready c cells)

-- the claimed job is submitted to the worker's manager
abbrev pub claim_of : ℕ → Option (ℕ × Job) → Replaying → Replayed
claim_of w None r = (line.Claim w None ∷ [], r)
claim_of w (Some found) r =
    answer_told (λ n. line.Claim w (Some (cell_number r found.0)) ∷ map (λ m. line.Finish w (Some m)) (option_to_list n)) w
    (after_submit (with_open (manager w r) found.1)) (record r { core = claimed_by r.core (party w r) found.0 found.1 })

-- ---- collect

-- the submitter's earliest job that is out is handed out if its cell holds a result
abbrev pub collect_of : ℕ → Option (Cell Job Done) → Replaying → Replayed
collect_of s (Some (done d)) r =
    (line.Collect s (cell_number r (first_cell r.core s)) d ∷ [], record r { core = with_result_collected r.core s })
collect_of s _ r = (line.CollectNone s ∷ [], r)

-- ---- the whole

-- the submitter and the worker of a command are among this many
abbrev pub IsFor : ℕ → ℕ → Cmd → Type 0
IsFor submitters workers (command.Post s) = s < submitters
IsFor submitters workers (command.Claim w s) = (w < workers) × (s < submitters)
IsFor submitters workers (command.Flush w) = w < workers
IsFor submitters workers (command.Collect s) = s < submitters

abbrev pub told : List Job → Cmd → Replaying → Replayed
told jobs (command.Post s) r = post_of s (slice_index r.nexts s) (slice_get jobs (slice_index r.nexts s)) r
-- a worker whose hand has as many cells as its manager's ring tries nothing
told jobs (command.Claim w s) r =
    if length (hand w r) == ring.CELLS then (line.ClaimFull w ∷ [], r) else claim_of w (first_ready r.core (cells_out r.core s)) r
told jobs (command.Flush w) r = answer_told (λ n. line.Finish w n ∷ []) w (after_flush (manager w r)) r
told jobs (command.Collect s) r = collect_of s (if out_of r.core s == 0 then None else cell_in r.core (first_cell r.core s)) r

-- the lines of commands, one after another, and the state after the last
abbrev pub replayed : List Job → List Cmd → Replaying → Replayed
replayed jobs [] r = ([], r)
replayed jobs (c ∷ commands) r =
    let rest = replayed jobs commands (told jobs c r).1 in ((told jobs c r).0 ++ rest.0, rest.1)

unfoldable pub replay_lines : List Job → List Cmd → ℕ → ℕ → List ReplayLine
replay_lines jobs commands submitters workers = (replayed jobs commands (new_replay submitters workers)).0

abbrev pub replay_text : List Job → List Cmd → ℕ → ℕ → List ℕ
replay_text jobs commands submitters workers = flat_map replay_line_text (replay_lines jobs commands submitters workers)
