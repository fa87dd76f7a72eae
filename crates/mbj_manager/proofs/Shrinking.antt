-- What holds of the stages left of each job, and still holds if some are done, stays through a course and a flush.
use Rattle.std.proofs.Common.{ℕ, ◌==◌, zero, suc, List, [], ◌∷◌, ◌++◌, length, Option, None, Some, slice_get, slice_index_or}
use Rattle.std.proofs.lemmas.Bool.{cond_both}
use Rattle.mbj_types.specs.declared.kind.Kind.{Kind}
use Rattle.mbj_types.specs.Kinds.{lanes_of}
use Rattle.mbj_manager.specs.Machine.Stages.{Pending, at_once, in_lanes}
use Rattle.mbj_manager.specs.Machine.Queues.{Machine, changed, queue_for, run_within, stage_done, with_queue}
use Rattle.mbj_manager.specs.declared.lane.Cause.{Cause}
use Rattle.mbj_manager.specs.declared.lane.Cause.TheVariants as cause
use Rattle.mbj_manager.specs.Machine.Course.{course, flush_step_at, flushed, goes_on, in_lanes_next, joined, stages_left, stepped, stepped_at}
use Rattle.mbj_manager.specs.Inside.Standing.{left_at}
use Rattle.mbj_manager.proofs.Changing.{each-changed}
use Rattle.mbj_manager.proofs.Standing.{gone}
use Rattle.mbj_manager.specs.Inside.Steps.{steps_ahead}
use Rattle.mbj_manager.proofs.Lanes.{with_waiting, waits}
use Rattle.std.specs.Prelude.{drop}
use Rattle.mbj_manager.proofs.Steps.{after_steps, after_flush_steps}

module _ (P : List Pending → Type 0) (one_done : (ps : List Pending) → P ps → P (drop 1 ps)) (next : (ps : List Pending) → P ps → P (in_lanes_next ps)) where
  abbrev pub Each : List (List Pending) → Type 0
  Each left = (n : ℕ) → P (left_at n left)

  each-done : (ns : List ℕ) (left : List (List Pending)) → Each left → Each (stage_done ns left)
  each-done [] left each = each
  each-done (m ∷ ns) left each = each-done ns (changed (drop 1) m left) (each-changed P (drop 1) [] one_done m left each)

  each-run : (at : Cause) (k : Kind) (m : Machine) → Each m.left → Each (run_within at k m).left
  each-run cause.Submit k m each = each-done (gone k m) m.left each
  each-run cause.Flush k m each = each-done (gone k m) m.left each

  each-joined : (at : Cause) (k : Kind) (n rest : ℕ) (m : Machine) → Each m.left → Each (joined at k n rest m).left
  each-joined at k n rest m each =
      let g = record m { lanes = with_queue k (with_waiting (queue_for k m) ((queue_for k m).waiting ++ waits n rest ∷ [])) m.lanes } in
      cond_both (length (queue_for k g).waiting == lanes_of k) (run_within at k g) g (λ (after : Machine). Each after.left) (λ full. each-run at k g each) (λ room. each)

  each-going : (at : Cause) (n : ℕ) (left : List Pending) (m : Machine) → Each m.left → Each (goes_on at n left m).left
  each-going at n [] m each = each
  each-going at n (at_once ∷ left) m each = each
  each-going at n (in_lanes k rest ∷ left) m each = each-joined at k n rest m each

  each-step : (at : Cause) (agenda : List ℕ) (m : Machine) → Each m.left → Each (stepped_at at agenda m).left
  each-step at [] m each = each
  each-step at (n ∷ agenda) m each =
      each-going at n (in_lanes_next (slice_index_or m.left n [])) (record m { left = changed in_lanes_next n m.left; agenda = agenda })
      (each-changed P in_lanes_next [] next n m.left each)

  each-steps : (at : Cause) (steps : ℕ) (m : Machine) → Each m.left → Each (after_steps at steps m).left
  each-steps at zero m each = each
  each-steps at (suc steps) m each = each-steps at steps (stepped at m) (each-step at m.agenda m each)

  pub each-course : (at : Cause) (m : Machine) → Each m.left → Each (course at m).left
  unfolding course
  each-course at m each = each-steps at (steps_ahead m) m each

  each-flush-step : (earliest : Option (List Pending)) (m : Machine) → Each m.left → Each (flush_step_at earliest m).left
  each-flush-step None m each = each
  each-flush-step (Some []) m each = each
  each-flush-step (Some (at_once ∷ left)) m each = each
  each-flush-step (Some (in_lanes k rest ∷ left)) m each = each-course cause.Flush (run_within cause.Flush k m) (each-run cause.Flush k m each)

  each-flush-steps : (steps : ℕ) (m : Machine) → Each m.left → Each (after_flush_steps steps m).left
  each-flush-steps zero m each = each
  each-flush-steps (suc steps) m each = each-flush-steps steps (flush_step_at (slice_get m.left 0) m) (each-flush-step (slice_get m.left 0) m each)

  pub each-flush : (m : Machine) → Each m.left → Each (flushed m).left
  unfolding flushed
  each-flush m each = each-flush-steps (stages_left m.left) m each
