-- The course of the jobs through the lane machine: after a submission, and in a flush.
use Rattle.std.specs.Prelude.{ℕ, ◌+◌, ◌*◌, ◌==◌, List, [], ◌∷◌, ◌++◌, length, sum_by, slice_index_or, Option, Some, slice_get, if◌then◌else◌}
use Rattle.std.specs.Fn.{iterate}
use Rattle.mbj_types.specs.declared.kind.Kind.{Kind}
use Rattle.mbj_types.specs.Kinds.{lanes_of}
use Rattle.mbj_manager.specs.Machine.Stages.{Pending, at_once, in_lanes}
use Rattle.mbj_manager.specs.Machine.Queues.{Machine, changed, queue_for, with_queue, run_within}
use Rattle.mbj_manager.specs.declared.lane.Cause.{Cause}
use Rattle.mbj_manager.specs.declared.lane.Cause.TheVariants as cause

-- the stages left once those are done that finish at once
abbrev pub in_lanes_next : List Pending → List Pending
in_lanes_next (at_once ∷ left) = in_lanes_next left
in_lanes_next left = left

abbrev pub run_if_full : Cause → Kind → Machine → Machine
run_if_full at k m = if length (queue_for k m).waiting == lanes_of k then run_within at k m else m

-- the job n joins the end of the kind's lane queue, which runs if it is full then
abbrev pub joined : Cause → Kind → ℕ → ℕ → Machine → Machine
joined at k n rest m = run_if_full at k (record m {
  lanes = with_queue k (record (queue_for k m) { waiting = (queue_for k m).waiting ++ record { number = n; rest = rest } ∷ [] }) m.lanes;
})

-- the job n goes on to its next stage, which is in lanes, or is finished
abbrev pub goes_on : Cause → ℕ → List Pending → Machine → Machine
goes_on at n (in_lanes k rest ∷ left) m = joined at k n rest m
goes_on at n _ m = m

-- the agenda's first job is taken: what finishes at once is done, and it goes on
abbrev pub stepped_at : Cause → List ℕ → Machine → Machine
stepped_at at [] m = m
stepped_at at (n ∷ agenda) m = goes_on at n (in_lanes_next (slice_index_or m.left n []))
    (record m { left = changed in_lanes_next n m.left; agenda = agenda })

abbrev pub stepped : Cause → Machine → Machine
stepped at m = stepped_at at m.agenda m

abbrev pub stages_left : List (List Pending) → ℕ
stages_left left = sum_by length left

-- the course: the agenda's first is taken until the agenda is empty, as it is after as many steps as this number, since each step lowers it
unfoldable pub course : Cause → Machine → Machine
course at m = iterate (stepped at) (2 * stages_left m.left + length m.agenda) m

-- ---- flush

-- while the earliest job stands in a lane queue, that lane queue runs, and the course is followed for those that leave
abbrev pub flush_step_at : Option (List Pending) → Machine → Machine
flush_step_at (Some (in_lanes k rest ∷ left)) m = course cause.Flush (run_within cause.Flush k m)
flush_step_at _ m = m

abbrev pub flush_step : Machine → Machine
flush_step m = flush_step_at (slice_get m.left 0) m

-- flush steps until the earliest job is finished: each ends a stage, so that there are no more of them than stages
unfoldable pub flushed : Machine → Machine
flushed m = iterate flush_step (stages_left m.left) m
