-- What a burst prints: jobs are handed to one manager in groups, and it is told how many results each call gives back.
use Rattle.std.specs.Prelude.{◌==◌, ◌-◌, ℕ, zero, suc, List, [], ◌∷◌, ◌++◌, drop, flat_map, length, map, replicate, take, if◌then◌else◌}
use Rattle.mbj_types.specs.declared.job.Job.{Job}
use Rattle.mbj_types.specs.declared.done.Done.{Done}
use Rattle.mbj_types.specs.Result.{result_of}
use Rattle.mbj_ring.specs.declared.ring.TheConstants.{CELLS}
use Rattle.mbj_manager.specs.Calls as calls
use Rattle.mbj_manager.specs.Calls.{Call, after_calls, given_back}
use Rattle.mbj_manager.specs.State.{ManagerState, new_manager}
use Rattle.mbj_text.specs.Line.{text}
use Rattle.mbj_text.specs.Telling.{Told, then_told}
use Rattle.mbj_burst.specs.Lines.{line_text}
use Rattle.mbj_burst.specs.declared.line.BurstLine.{BurstLine}
use Rattle.mbj_burst.specs.declared.line.BurstLine.TheVariants as line

-- the manager, and the results that it gave back, in their order
pub record Bursting : Type 0 where
  pub manager : ManagerState
  pub results : List Done

abbrev pub new_bursting : Bursting
new_bursting = record { manager = new_manager; results = [] }

-- calls of the manager are told in one line, by how many results they give back
abbrev pub calls_told : (ℕ → BurstLine) → List Call → Bursting → Told BurstLine Bursting
calls_told line cs b =
    let given = given_back cs b.manager in
    (line (length given) ∷ [], record { manager = after_calls cs b.manager; results = b.results ++ given })

-- ---- submitting

-- if no cell is left, that is told, and as many jobs are flushed as a group has
abbrev pub room_told : ℕ → Bursting → Told BurstLine Bursting
room_told size b =
    if length b.manager.owed == CELLS then then_told (line.Full ∷ [], b) (calls_told line.Flush (replicate size calls.flush)) else ([], b)

-- the jobs are written into open cells, and submitted in one burst
abbrev pub submit_told : List Job → Bursting → Told BurstLine Bursting
submit_told js b =
    calls_told (line.Submit (length js)) (replicate (length js) calls.submit) (record b { manager = record b.manager { opened = js } })

-- how many cells are left
abbrev pub cells_left : Bursting → ℕ
cells_left b = CELLS - length b.manager.owed

-- a group is handed over by as many bursts as it takes; once there is room each of them takes one job at least
abbrev pub group_told : ℕ → ℕ → List Job → Bursting → Told BurstLine Bursting
group_told size zero js b = ([], b)
group_told size (suc bursts) [] b = ([], b)
group_told size (suc bursts) (j ∷ js) b =
    then_told (room_told size b)
    (λ b. then_told (submit_told (take (cells_left b) (j ∷ js)) b) (group_told size bursts (drop (cells_left b) (j ∷ js))))

-- the jobs in groups of this many, the last of which may have fewer
abbrev pub groups_told : ℕ → ℕ → List Job → Bursting → Told BurstLine Bursting
groups_told size zero js b = ([], b)
groups_told size (suc groups) [] b = ([], b)
groups_told size (suc groups) (j ∷ js) b =
    then_told (group_told size size (take size (j ∷ js)) b) (groups_told size groups (drop size (j ∷ js)))

-- ---- taking back

-- one flush of all cells after another, until one gives nothing back; at most as many give one back as jobs are owed
abbrev pub flushes_told : ℕ → Bursting → Told BurstLine Bursting
flushes_told zero b = calls_told line.Flush (replicate CELLS calls.flush) b
flushes_told (suc jobs) b =
    let one = calls_told line.Flush (replicate CELLS calls.flush) b in
    if length one.1.results == length b.results then one else then_told one (flushes_told jobs)

-- ---- the whole

unfoldable pub burst_told : ℕ → List Job → Told BurstLine Bursting
burst_told size js =
    then_told (groups_told size (length js) js new_bursting) (λ b. flushes_told (length b.manager.owed) b)

-- the lines of the calls, and then the result lines of the jobs
abbrev pub burst_text : ℕ → List Job → List ℕ
burst_text size js = flat_map line_text (burst_told size js).0 ++ text (map result_of js)
