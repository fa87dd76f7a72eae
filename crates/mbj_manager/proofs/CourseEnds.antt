-- A course ends: nothing is left in the agenda, and the machine is between two calls.
use Rattle.std.proofs.Common.{◌≡◌, ◌≢◌, ◌∙◌, ℕ, ◌≤◌, zero, suc, List, [], ◌∷◌, length, inl, inr, refl, ap, sym, subst, arith}
use Rattle.std.specs.Prelude.{All}
use Rattle.std.proofs.lemmas.Bool.{cases_lt}
use Rattle.std.proofs.lemmas.List.{get_or_past}
use Rattle.std.proofs.lemmas.List.Elements.{All-from_get_or, All-get_or, All-nil}
use Rattle.mbj_types.specs.declared.kind.Kind.{Kind}
use Rattle.mbj_manager.specs.Machine.Stages.{Pending}
use Rattle.mbj_manager.specs.Machine.Queues.{Machine, queue_for}
use Rattle.mbj_manager.specs.declared.lane.Cause.{Cause}
use Rattle.mbj_manager.specs.Machine.Course.{course, stages_left, stepped, stepped_at}
use Rattle.mbj_manager.specs.Machine.Between.{HasRounds, IsBetweenCalls}
use Rattle.mbj_manager.specs.Inside.Standing.{IsLane, IsInCourse, left_at, times}
use Rattle.mbj_manager.proofs.Reaching.{reaches-start, reaches-step}
use Rattle.mbj_manager.proofs.Resting.{rests, steps-end-alike}
use Rattle.mbj_manager.proofs.Stepping.{IsStep, steps}
use Rattle.mbj_manager.specs.Inside.Steps.{steps_ahead}
use Rattle.mbj_manager.proofs.Steps.{after_steps}

-- the stages of each job, also past the last one, have rounds
pub stages-at : (left : List (List Pending)) → All (All HasRounds) left → (n : ℕ) → All HasRounds (left_at n left)
stages-at left rounds n = elim (cases_lt n (length left)) [
  | inl lt ↦ All-get_or (All HasRounds) left n [] lt rounds
  | inr past ↦ subst (All HasRounds) (sym (get_or_past left n [] past)) (All-nil HasRounds)
]

-- if the agenda is empty, what holds after each step holds between two calls
pub between-calls : (m : Machine) → IsInCourse m → m.agenda ≡ [] → IsBetweenCalls m
between-calls m within none = record {
  agenda = none;
  few = λ k. (within.lanes k).few;
  rests = λ k. (within.lanes k).rests;
  placed = λ n. elim (within.stands n) [
    | inl a ↦ (let never : times n m.agenda ≡ 0 = ap (times n) none in let once = a.0 in absurd (omega arith))
    | inr p ↦ p.1
  ];
  stages = All-from_get_or (All HasRounds) m.left [] (λ n lt. within.stages n);
  blocks = λ k. (within.lanes k).blocks;
}

-- the lanes between two calls are as they are after each step
pub lanes-between : (m : Machine) → IsBetweenCalls m → (k : Kind) → IsLane k (queue_for k m)
lanes-between m between k = record { few = between.few k; rests = between.rests k; blocks = between.blocks k }

-- after is the machine m after a whole course
pub record Ends (after m : Machine) : Type 0 where
  pub between : IsBetweenCalls after
  pub fewer : stages_left after.left ≤ stages_left m.left

-- as many steps as are ahead end the course
enough-steps : (at : Cause) (count : ℕ) (agenda : List ℕ) (m : Machine) → m.agenda ≡ agenda → IsInCourse m → steps_ahead m ≤ count
    → Ends (after_steps at count m) m
enough-steps at count [] m is within enough =
    subst (λ after. Ends after m) (sym (rests at count m is)) (record { between = between-calls m within is; fewer = omega arith })
enough-steps at zero (n ∷ agenda) m is within enough =
    absurd (let one : length m.agenda ≡ suc (length agenda) = ap length is in omega arith)
enough-steps at (suc count) (n ∷ agenda) m is within enough =
    let step : IsStep (stepped at m) m = subst (λ a. IsStep (stepped_at at a m) m) (sym is) (steps at n agenda m is within) in
    let entry_view = step.entry_view in
    let fewer = step.fewer in
    let end = enough-steps at count (stepped at m).agenda (stepped at m) refl step.within (omega arith) in
    let fewer-then = end.fewer in
    record { between = end.between; fewer = omega arith }

-- a step of the agenda's first job
pub step-of : (at : Cause) (agenda : List ℕ) (m : Machine) → m.agenda ≡ agenda → agenda ≢ [] → IsInCourse m → IsStep (stepped at m) m
step-of at [] m is some within = absurd (some refl)
step-of at (n ∷ agenda) m is some within = subst (λ a. IsStep (stepped_at at a m) m) (sym is) (steps at n agenda m is within)

-- a course from a machine between two steps
pub course-ends : (at : Cause) (m : Machine) → IsInCourse m → Ends (course at m) m
unfolding course
course-ends at m within = enough-steps at (steps_ahead m) m.agenda m refl within (omega arith)

-- it goes where it goes from the machine after a step
pub course-stepped : (at : Cause) (m : Machine) → m.agenda ≢ [] → IsInCourse m → course at (stepped at m) ≡ course at m
unfolding course
course-stepped at m some within =
    let step = step-of at m.agenda m refl some within in
    let r = reaches-step at m (course at m) step.entry_view (reaches-start at m) in
    let ended : (course at m).agenda ≡ [] = (course-ends at m within).between.agenda in
    let next-ended : (course at (stepped at m)).agenda ≡ [] = (course-ends at (stepped at m) step.within).between.agenda in
    (steps-end-alike (stepped at m)).course at (steps_ahead (stepped at m)) r.count next-ended (ap (λ (x : Machine). x.agenda) r.is ∙ ended) ∙ r.is
