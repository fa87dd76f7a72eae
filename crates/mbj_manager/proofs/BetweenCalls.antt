-- What a submission and a flush make of a machine between two calls.
use Rattle.std.proofs.Common.{◌≡◌, ◌≢◌, ℕ, ◌≤◌, ◌<◌, ◌==◌, zero, suc, List, [], ◌∷◌, ◌++◌, length, Some, slice_get, inl, inr, refl, ap, sym, ◌∙◌, subst, arith}
use Rattle.std.specs.Prelude.{All}
use Rattle.std.proofs.lemmas.Bool.{cases_eq}
use Rattle.std.proofs.lemmas.List.{get_or_past, nil_from_length}
use Rattle.std.proofs.lemmas.List.Elements.{All-push}
use Rattle.std.proofs.lemmas.List.Sums.{count_by-le-length}
use Rattle.mbj_types.specs.declared.kind.Kind.{Kind}
use Rattle.mbj_manager.specs.Machine.Stages.{Pending, at_once, in_lanes}
use Rattle.mbj_manager.specs.Machine.Queues.{Machine, queue_for, run_within}
use Rattle.mbj_manager.specs.declared.lane.Cause.{Cause}
use Rattle.mbj_manager.specs.declared.lane.Cause.TheVariants as cause
use Rattle.mbj_manager.specs.Machine.Course.{course, flush_step_at, flushed, in_lanes_next, stages_left}
use Rattle.mbj_manager.specs.Machine.Between.{HasRounds, IsBetweenCalls, IsPlaced, KeepsMachines, times_in, with_stages}
use Rattle.mbj_manager.specs.Inside.Standing.{IsInCourse, Stands, left_at, times}
use Rattle.mbj_manager.proofs.Changing.{length-changed, other-added}
use Rattle.mbj_manager.proofs.CourseEnds.{course-ends, lanes-between, stages-at}
use Rattle.mbj_manager.proofs.Resting.{flush-rests}
use Rattle.mbj_manager.proofs.Times.{times-here, times-there}
use Rattle.mbj_manager.proofs.Running.{IsReady, idle-keeps}
use Rattle.mbj_manager.proofs.StagesLeft.{length-stage_done}
use Rattle.mbj_manager.proofs.Standing.{gone}
use Rattle.mbj_manager.proofs.Unchanged.{IsUnchanged, unchanged-course, unchanged-flush}
use Rattle.mbj_manager.proofs.Steps.{after_flush_steps}

-- ---- a submission

-- the job that is submitted stands in the agenda, and the others where they did
submitted-stands : (stages : List Pending) (m : Machine) → IsBetweenCalls m → (n : ℕ) → Stands (with_stages stages m) n
submitted-stands stages m between n = elim (cases_eq (length m.left) n) [
  | inl e ↦ subst (Stands (with_stages stages m)) e
      (inl (
        times-here (length m.left) [],
        subst (IsPlaced m (length m.left)) (get_or_past m.left (length m.left) [] (omega arith)) (between.placed (length m.left)),
      ))
  | inr ne ↦ inr (
    times-there n (length m.left) [] ne,
    subst (IsPlaced m n) (sym (other-added [] m.left stages n (λ e. ne (sym e)))) (between.placed n),
  )
]

-- the machine to which a job is submitted is as it is after each step
pub submitted-within : (stages : List Pending) (m : Machine) → All HasRounds stages → IsBetweenCalls m → IsInCourse (with_stages stages m)
submitted-within stages m rounds between = record {
  lanes = lanes-between m between;
  stages = stages-at (m.left ++ stages ∷ []) (All-push (All HasRounds) m.left stages between.stages rounds);
  stands = submitted-stands stages m between;
}

-- ---- a flush

-- somebody waits in the lane queue of the earliest job
pub earliest-ready : (k : Kind) (rest : ℕ) (left : List Pending) (m : Machine) → left_at 0 m.left ≡ in_lanes k rest ∷ left
    → IsBetweenCalls m → IsReady k m
earliest-ready k rest left m earliest between =
    let placed = subst (IsPlaced m 0) earliest (between.placed 0) in
    let there : times_in 0 (queue_for k m).waiting ≡ 1 = placed.0 in
    let few = between.few k in
    let some : 0 < length (queue_for k m).waiting = omega (arith, count_by-le-length (λ w. w.number == 0) (queue_for k m).waiting) in
    record {
      others = λ j ne. lanes-between m between j;
      lane = record { some = some; room = omega arith; rests = between.rests k; blocks = between.blocks k };
      stages = stages-at m.left between.stages;
      stands = λ n. inr (ap (times n) between.agenda, between.placed n);
    }

-- the lane queue of the earliest job runs
pub earliest-runs : (left : List (List Pending)) (k : Kind) (rest : ℕ) (ps : List Pending) (m : Machine)
    → left_at 0 left ≡ in_lanes k rest ∷ ps → flush_step_at (slice_get left 0) m ≡ course cause.Flush (run_within cause.Flush k m)
earliest-runs [] k rest ps m earliest = cc
earliest-runs (first ∷ left) k rest ps m earliest = ap (λ ps. flush_step_at (Some ps) m) earliest

-- after is a machine between two calls whose earliest job is finished
record IsFlushed (after : Machine) : Type 0 where
  between : IsBetweenCalls after
  done : left_at 0 after.left ≡ []

-- as many flush steps as there are stages finish the earliest job
enough-flush-steps : (count : ℕ) (earliest : List Pending) (m : Machine) → left_at 0 m.left ≡ earliest → IsBetweenCalls m
    → stages_left m.left ≤ count → IsFlushed (after_flush_steps count m)
enough-flush-steps count [] m is between enough =
    subst IsFlushed (sym (flush-rests count m is)) (record { between = between; done = is })
enough-flush-steps count (at_once ∷ ps) m is between enough = elim (subst (IsPlaced m 0) is (between.placed 0)) [ ]
enough-flush-steps zero (in_lanes k rest ∷ ps) m is between enough =
    let fewer = (idle-keeps k m (earliest-ready k rest ps m is between)).fewer in absurd (omega arith)
enough-flush-steps (suc count) (in_lanes k rest ∷ ps) m is between enough =
    let run = idle-keeps k m (earliest-ready k rest ps m is between) in
    let end = course-ends cause.Flush (run_within cause.Flush k m) run.within in
    let fewer = run.fewer in
    let fewer-then = end.fewer in
    let after = course cause.Flush (run_within cause.Flush k m) in
    let flushed-then = enough-flush-steps count (left_at 0 after.left) after refl end.between (omega arith) in
    subst (λ m. IsFlushed (after_flush_steps count m)) (sym (earliest-runs m.left k rest ps m is)) flushed-then

-- a flush finishes the earliest job
flush-ends : (m : Machine) → IsBetweenCalls m → IsFlushed (flushed m)
unfolding flushed
flush-ends m between = enough-flush-steps (stages_left m.left) (left_at 0 m.left) m refl between (omega arith)

-- ---- how many jobs there are

-- a run takes no job away
run-length : (at : Cause) (k : Kind) (m : Machine) → length (run_within at k m).left ≡ length m.left
run-length cause.Submit k m = length-stage_done (gone k m) m.left
run-length cause.Flush k m = length-stage_done (gone k m) m.left

-- how many jobs there are stays within a course
jobs-left : (at : Cause) → IsUnchanged (λ m. length m.left) at
jobs-left at = record {
  runs = run-length at;
  joins = λ k ws m. refl;
  takes = λ n agenda m. length-changed in_lanes_next n m.left;
}

-- a course finishes jobs and takes none away
pub course-length : (at : Cause) (m : Machine) → length (course at m).left ≡ length m.left
course-length at m = unchanged-course (λ m. length m.left) at (jobs-left at) m

-- likewise a flush
pub flush-length : (m : Machine) → length (flushed m).left ≡ length m.left
flush-length m = unchanged-flush (λ m. length m.left) (jobs-left cause.Flush) m

-- ---- both

-- if there are jobs, the first of which has no stage left
first-done : (left : List (List Pending)) → left ≢ [] → left_at 0 left ≡ [] → slice_get left 0 ≡ Some []
first-done [] some done = absurd (some refl)
first-done (ps ∷ left) some done = ap Some done

-- what a submission and a flush make of a machine between two calls is one between two calls
pub machines-kept : (m : Machine) → IsBetweenCalls m → KeepsMachines m
machines-kept m between =
    let end = flush-ends m between in
    record {
      submits = λ stages rounds. (course-ends cause.Submit (with_stages stages m) (submitted-within stages m rounds between)).between;
      flushes = end.between;
      earliest = λ some. first-done (flushed m).left
          (λ none. some (nil_from_length m.left (sym (flush-length m) ∙ ap length none))) end.done;
    }
