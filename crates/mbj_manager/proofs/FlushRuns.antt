-- How many runs there are within a flush: no more than there are stages left, since each ends one.
use Rattle.std.proofs.Common.{◌≡◌, ℕ, ◌+◌, ◌%◌, ◌==◌, zero, suc, List, [], ◌∷◌, length, refl, ap, sym, ◌∙◌, subst, arith}
use Rattle.std.proofs.Math.Nat.{mod-add-mod}
use Rattle.std.proofs.lemmas.Bool.{cond_both}
use Rattle.mbj_types.specs.declared.kind.Kind.{Kind}
use Rattle.mbj_types.specs.Kinds.{lanes_of}
use Rattle.mbj_manager.specs.Machine.Stages.{Pending, at_once, in_lanes}
use Rattle.mbj_manager.specs.Machine.Queues.{Machine, count_end, queue_for, run_within}
use Rattle.mbj_manager.specs.declared.lane.Cause.TheVariants as cause
use Rattle.mbj_manager.specs.Machine.Course.{course, flushed, goes_on, in_lanes_next, joined, stages_left, stepped, stepped_at}
use Rattle.mbj_manager.specs.Machine.Between.{IsBetweenCalls, IsPlaced}
use Rattle.mbj_manager.specs.Inside.RunsFew.{RunsFew}
use Rattle.mbj_manager.specs.Inside.Standing.{IsInCourse, left_at}
use Rattle.mbj_manager.proofs.BetweenCalls.{earliest-ready, earliest-runs}
use Rattle.mbj_manager.proofs.Changing.{at-changed}
use Rattle.mbj_manager.proofs.CourseEnds.{course-ends}
use Rattle.mbj_manager.proofs.Resting.{flush-rests, rests}
use Rattle.mbj_manager.proofs.Running.{IsReady, idle-keeps}
use Rattle.mbj_manager.proofs.StagesLeft.{no-more-stages}
use Rattle.mbj_manager.proofs.Stepping.{IsTaken, grown, grown-ready, steps, take_first, takes}
use Rattle.mbj_manager.specs.Inside.Steps.{steps_ahead}
use Rattle.mbj_manager.proofs.Steps.{after_steps, after_flush_steps}

no-more : (runs : ℕ) → runs % count_end ≡ (runs + 0) % count_end
no-more runs = let same : runs ≡ runs + 0 = omega arith in ap (λ n. n % count_end) same

none-run : (m : Machine) → RunsFew m m
none-run m = record { count = 0; few = omega arith; is = no-more m.flush_runs }

-- runs, and then more
and-then : (first next last : Machine) → RunsFew next first → RunsFew last next → RunsFew last first
and-then first next last a b =
    let few-first = a.few in
    let few-next = b.few in
    let sum : (first.flush_runs + a.count) + b.count ≡ first.flush_runs + (a.count + b.count) = omega arith in
    record {
      count = a.count + b.count;
      few = omega arith;
      is = b.is ∙ sym (mod-add-mod next.flush_runs count_end b.count) ∙ ap (λ n. (n + b.count) % count_end) a.is
          ∙ mod-add-mod (first.flush_runs + a.count) count_end b.count ∙ ap (λ n. n % count_end) sum;
    }

-- a run ends a stage
one-run : (k : Kind) (m : Machine) → IsReady k m → RunsFew (run_within cause.Flush k m) m
one-run k m ready =
    let fewer = (idle-keeps k m ready).fewer in
    let none : ((m.flush_runs + 1) % count_end + 0) % count_end ≡ (m.flush_runs + 1 + 0) % count_end = mod-add-mod (m.flush_runs + 1) count_end 0 in
    let same : (m.flush_runs + 1) % count_end + 0 ≡ (m.flush_runs + 1) % count_end = omega arith in
    let plus : m.flush_runs + 1 + 0 ≡ m.flush_runs + 1 = omega arith in
    record { count = 1; few = omega arith; is = sym (ap (λ n. n % count_end) same) ∙ none ∙ ap (λ n. n % count_end) plus }

join-runs : (k : Kind) (n rest : ℕ) (left : List Pending) (m : Machine) → IsTaken n m → left_at n m.left ≡ in_lanes k rest ∷ left
    → RunsFew (joined cause.Flush k n rest m) m
join-runs k n rest left m taken next =
    let g = grown k n rest m in
    let grew : RunsFew g m = record { count = 0; few = omega arith; is = no-more m.flush_runs } in
    cond_both (length (queue_for k g).waiting == lanes_of k) (run_within cause.Flush k g) g (λ after. RunsFew after m)
    (λ full. and-then m g (run_within cause.Flush k g) grew (one-run k g (grown-ready k n rest left m taken next)))
    (λ room. grew)

goes-runs : (n : ℕ) (ps : List Pending) (m : Machine) → IsTaken n m → left_at n m.left ≡ ps → RunsFew (goes_on cause.Flush n ps m) m
goes-runs n [] m taken next = none-run m
goes-runs n (at_once ∷ left) m taken next = none-run m
goes-runs n (in_lanes k rest ∷ left) m taken next = join-runs k n rest left m taken next

step-runs : (n : ℕ) (agenda : List ℕ) (m : Machine) → m.agenda ≡ n ∷ agenda → IsInCourse m → RunsFew (stepped_at cause.Flush (n ∷ agenda) m) m
step-runs n agenda m first within =
    let t = take_first n agenda m in
    let took : RunsFew t m = record { count = 0; few = (let stages = no-more-stages n m.left in omega arith); is = no-more m.flush_runs } in
    and-then m t (goes_on cause.Flush n (in_lanes_next (left_at n m.left)) t) took
    (goes-runs n (in_lanes_next (left_at n m.left)) t (takes n agenda m first within) (at-changed in_lanes_next [] refl n m.left))

steps-run : (count : ℕ) (agenda : List ℕ) (m : Machine) → m.agenda ≡ agenda → IsInCourse m → RunsFew (after_steps cause.Flush count m) m
steps-run count [] m is within = subst (λ (x : Machine). RunsFew x m) (sym (rests cause.Flush count m is)) (none-run m)
steps-run zero (n ∷ agenda) m is within = none-run m
steps-run (suc count) (n ∷ agenda) m is within =
    let stepped-on = subst (λ a. IsInCourse (stepped_at cause.Flush a m)) (sym is) (steps cause.Flush n agenda m is within).within in
    and-then m (stepped cause.Flush m) (after_steps cause.Flush count (stepped cause.Flush m))
    (subst (λ a. RunsFew (stepped_at cause.Flush a m) m) (sym is) (step-runs n agenda m is within))
    (steps-run count (stepped cause.Flush m).agenda (stepped cause.Flush m) refl stepped-on)

course-runs : (m : Machine) → IsInCourse m → RunsFew (course cause.Flush m) m
unfolding course
course-runs m within = steps-run (steps_ahead m) m.agenda m refl within

flush-steps-run : (count : ℕ) (earliest : List Pending) (m : Machine) → left_at 0 m.left ≡ earliest → IsBetweenCalls m
    → RunsFew (after_flush_steps count m) m
flush-steps-run count [] m is between = subst (λ (x : Machine). RunsFew x m) (sym (flush-rests count m is)) (none-run m)
flush-steps-run count (at_once ∷ ps) m is between = elim (subst (IsPlaced m 0) is (between.placed 0)) [ ]
flush-steps-run zero (in_lanes k rest ∷ ps) m is between = none-run m
flush-steps-run (suc count) (in_lanes k rest ∷ ps) m is between =
    let ready = earliest-ready k rest ps m is between in
    let run = idle-keeps k m ready in
    let after = course cause.Flush (run_within cause.Flush k m) in
    let end = course-ends cause.Flush (run_within cause.Flush k m) run.within in
    let runs = and-then m (run_within cause.Flush k m) after (one-run k m ready) (course-runs (run_within cause.Flush k m) run.within) in
    subst (λ (x : Machine). RunsFew (after_flush_steps count x) m) (sym (earliest-runs m.left k rest ps m is))
    (and-then m after (after_flush_steps count after) runs (flush-steps-run count (left_at 0 after.left) after refl end.between))

-- a flush from a machine between two calls
pub flush-runs : (m : Machine) → IsBetweenCalls m → RunsFew (flushed m) m
unfolding flushed
flush-runs m between = flush-steps-run (stages_left m.left) (left_at 0 m.left) m refl between
