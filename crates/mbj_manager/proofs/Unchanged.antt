-- What stays of a machine through a course and a flush.
use Rattle.std.proofs.Common.{◌≡◌, ℕ, ◌==◌, zero, suc, Bool, true, false, List, [], ◌∷◌, ◌++◌, length, Option, Some, None, slice_get, slice_index_or, if◌then◌else◌, refl, ◌∙◌}
use Rattle.mbj_types.specs.declared.kind.Kind.{Kind}
use Rattle.mbj_types.specs.Kinds.{lanes_of}
use Rattle.mbj_manager.specs.Machine.Stages.{Pending, at_once, in_lanes}
use Rattle.mbj_manager.specs.Machine.Queues.{Machine, WaitingJob, changed, queue_for, run_within, with_queue}
use Rattle.mbj_manager.specs.declared.lane.Cause.{Cause}
use Rattle.mbj_manager.specs.declared.lane.Cause.TheVariants as cause
use Rattle.mbj_manager.specs.Machine.Course.{course, flush_step_at, flushed, goes_on, in_lanes_next, joined, stages_left, stepped, stepped_at}
use Rattle.mbj_manager.specs.Inside.Steps.{steps_ahead}
use Rattle.mbj_manager.proofs.Lanes.{with_waiting, waits}
use Rattle.mbj_manager.proofs.Steps.{after_steps, after_flush_steps}

-- what f reads of a machine stays as it is when a lane queue runs, a job joins one, or the agenda's first is taken
pub record IsUnchanged {A : Type 0} (f : Machine → A) (at : Cause) : Type 0 where
  pub runs : (k : Kind) (m : Machine) → f (run_within at k m) ≡ f m
  pub joins : (k : Kind) (ws : List WaitingJob) (m : Machine)
      → f (record m { lanes = with_queue k (with_waiting (queue_for k m) ws) m.lanes }) ≡ f m
  pub takes : (n : ℕ) (agenda : List ℕ) (m : Machine)
      → f (record m { left = changed in_lanes_next n m.left; agenda = agenda }) ≡ f m

-- one of two machines of which f reads the same
either-way : {A : Type 0} (f : Machine → A) (b : Bool) (x y : Machine) → f x ≡ f y → f (if b then x else y) ≡ f y
either-way f true x y e = e
either-way f false x y e = refl

-- through a job that joins a lane queue
unchanged-joined : {A : Type 0} (f : Machine → A) (at : Cause) → IsUnchanged f at → (k : Kind) (n rest : ℕ) (m : Machine)
    → f (joined at k n rest m) ≡ f m
unchanged-joined f at stays k n rest m =
    let ws = (queue_for k m).waiting ++ waits n rest ∷ [] in
    let m' = record m { lanes = with_queue k (with_waiting (queue_for k m) ws) m.lanes } in
    either-way f (length (queue_for k m').waiting == lanes_of k) (run_within at k m') m' (stays.runs k m') ∙ stays.joins k ws m

-- through a job that goes on
unchanged-going : {A : Type 0} (f : Machine → A) (at : Cause) → IsUnchanged f at → (n : ℕ) (left : List Pending) (m : Machine)
    → f (goes_on at n left m) ≡ f m
unchanged-going f at stays n [] m = refl
unchanged-going f at stays n (at_once ∷ left) m = refl
unchanged-going f at stays n (in_lanes k rest ∷ left) m = unchanged-joined f at stays k n rest m

-- through a step
unchanged-step : {A : Type 0} (f : Machine → A) (at : Cause) → IsUnchanged f at → (agenda : List ℕ) (m : Machine)
    → f (stepped_at at agenda m) ≡ f m
unchanged-step f at stays [] m = refl
unchanged-step f at stays (n ∷ agenda) m =
    unchanged-going f at stays n (in_lanes_next (slice_index_or m.left n [])) (record m { left = changed in_lanes_next n m.left; agenda = agenda })
    ∙ stays.takes n agenda m

-- through steps
unchanged-steps : {A : Type 0} (f : Machine → A) (at : Cause) → IsUnchanged f at → (steps : ℕ) (m : Machine)
    → f (after_steps at steps m) ≡ f m
unchanged-steps f at stays zero m = refl
unchanged-steps f at stays (suc steps) m = unchanged-steps f at stays steps (stepped at m) ∙ unchanged-step f at stays m.agenda m

-- through a course
pub unchanged-course : {A : Type 0} (f : Machine → A) (at : Cause) → IsUnchanged f at → (m : Machine) → f (course at m) ≡ f m
unfolding course
unchanged-course f at stays m = unchanged-steps f at stays (steps_ahead m) m

-- through a flush step
unchanged-flush-step : {A : Type 0} (f : Machine → A) → IsUnchanged f cause.Flush → (earliest : Option (List Pending)) (m : Machine)
    → f (flush_step_at earliest m) ≡ f m
unchanged-flush-step f stays None m = refl
unchanged-flush-step f stays (Some []) m = refl
unchanged-flush-step f stays (Some (at_once ∷ left)) m = refl
unchanged-flush-step f stays (Some (in_lanes k rest ∷ left)) m = unchanged-course f cause.Flush stays (run_within cause.Flush k m) ∙ stays.runs k m

-- through flush steps
unchanged-flush-steps : {A : Type 0} (f : Machine → A) → IsUnchanged f cause.Flush → (steps : ℕ) (m : Machine)
    → f (after_flush_steps steps m) ≡ f m
unchanged-flush-steps f stays zero m = refl
unchanged-flush-steps f stays (suc steps) m =
    unchanged-flush-steps f stays steps (flush_step_at (slice_get m.left 0) m) ∙ unchanged-flush-step f stays (slice_get m.left 0) m

-- through a flush
pub unchanged-flush : {A : Type 0} (f : Machine → A) → IsUnchanged f cause.Flush → (m : Machine) → f (flushed m) ≡ f m
unfolding flushed
unchanged-flush f stays m = unchanged-flush-steps f stays (stages_left m.left) m
