-- A loop of flush steps comes to where a whole flush comes.
use Rattle.std.proofs.Common.{◌≡◌, ℕ, zero, suc, ◌≤◌, ◌<◌, List, [], ◌∷◌, None, Some, slice_get, refl, ap, sym, ◌∙◌, subst, arith}
use Rattle.mbj_types.specs.declared.kind.Kind.{Kind}
use Rattle.mbj_manager.specs.Machine.Stages.{Pending, at_once, in_lanes}
use Rattle.mbj_manager.specs.Machine.Queues.{Machine, run_within}
use Rattle.mbj_manager.specs.declared.lane.Cause.TheVariants as cause
use Rattle.mbj_manager.specs.Machine.Course.{course, flush_step_at, flushed, stages_left}
use Rattle.mbj_manager.specs.Inside.Added.{first_lane}
use Rattle.mbj_manager.proofs.Steps.{after_flush_steps}

-- enough flush steps of the machine m come to the machine end
pub record FlushReaches (m end : Machine) : Type 0 where
  pub count : ℕ
  pub enough : stages_left m.left ≤ count
  pub is : after_flush_steps count m ≡ end

pub flush-start : (m : Machine) → FlushReaches m (flushed m)
unfolding flushed
flush-start m = record { count = stages_left m.left; enough = omega arith; is = refl }

by-count : (m end : Machine) (count : ℕ) → stages_left (flush_step_at (slice_get m.left 0) m).left < stages_left m.left → stages_left m.left ≤ count → after_flush_steps count m ≡ end
    → FlushReaches (flush_step_at (slice_get m.left 0) m) end
by-count m end zero fewer enough is = absurd (omega arith)
by-count m end (suc count) fewer enough is = record { count = count; enough = omega arith; is = is }

step-runs : (left : List (List Pending)) (k : Kind) (m : Machine) → first_lane left ≡ Some k → flush_step_at (slice_get left 0) m ≡ course cause.Flush (run_within cause.Flush k m)
step-runs [] k m e = cc
step-runs ([] ∷ left) k m e = cc
step-runs ((at_once ∷ ps) ∷ left) k m e = cc
step-runs ((in_lanes j rest ∷ ps) ∷ left) k m e = let is : j ≡ k = cc in ap (λ (i : Kind). course cause.Flush (run_within cause.Flush i m)) is

-- the lane queue of the earliest job runs, and the course is followed
pub flush-next : (m m' end : Machine) (k : Kind) → first_lane m.left ≡ Some k → m' ≡ course cause.Flush (run_within cause.Flush k m) → stages_left m'.left < stages_left m.left
    → FlushReaches m end → FlushReaches m' end
flush-next m m' end k e is fewer r =
    let step : m' ≡ flush_step_at (slice_get m.left 0) m = is ∙ sym (step-runs m.left k m e) in
    subst (λ (x : Machine). FlushReaches x end) (sym step)
    (by-count m end r.count (subst (λ (x : Machine). stages_left x.left < stages_left m.left) step fewer) r.enough r.is)

step-rests : (left : List (List Pending)) (m : Machine) → first_lane left ≡ None → flush_step_at (slice_get left 0) m ≡ m
step-rests [] m e = refl
step-rests ([] ∷ left) m e = refl
step-rests ((at_once ∷ ps) ∷ left) m e = refl
step-rests ((in_lanes j rest ∷ ps) ∷ left) m e = cc

rests : (count : ℕ) (m : Machine) → first_lane m.left ≡ None → after_flush_steps count m ≡ m
rests zero m e = refl
rests (suc count) m e = ap (after_flush_steps count) (step-rests m.left m e) ∙ rests count m e

-- the earliest job stands in no lane queue
pub flush-end : (m end : Machine) → first_lane m.left ≡ None → FlushReaches m end → m ≡ end
flush-end m end e r = sym (rests r.count m e) ∙ r.is
