-- A step of a course: the agenda's first job is taken and goes on.
use Rattle.std.proofs.Common.{◌≡◌, ◌≢◌, ℕ, ◌+◌, ◌≤◌, ◌<◌, ◌==◌, List, [], ◌∷◌, ◌++◌, length, inl, inr, refl, ap, sym, ◌∙◌, subst, arith}
use Rattle.std.specs.Prelude.{All}
use Rattle.std.proofs.lemmas.Bool.{cases_eq, cond_both, eqb-true, eqb-false}
use Rattle.std.proofs.lemmas.List.{length-append}
use Rattle.std.proofs.lemmas.List.Elements.{All-head, All-push}
use Rattle.mbj_types.specs.declared.kind.Kind.{Kind}
use Rattle.mbj_types.specs.Kinds.{lanes_of}
use Rattle.mbj_manager.specs.Machine.Stages.{Pending, at_once, in_lanes}
use Rattle.mbj_manager.specs.Machine.Queues.{Queue, Machine, changed, queue_for, run_within, with_queue}
use Rattle.mbj_manager.specs.declared.lane.Cause.{Cause}
use Rattle.mbj_manager.specs.Machine.Course.{in_lanes_next, joined, goes_on, stepped_at, stages_left}
use Rattle.mbj_manager.specs.Machine.Between.{HasRounds, IsPlaced, times_in}
use Rattle.mbj_manager.specs.Inside.Standing.{IsLane, IsInCourse, Stands, left_at, times}
use Rattle.mbj_manager.proofs.Changing.{at-changed, other-changed, each-changed}
use Rattle.mbj_manager.proofs.Lanes.{each-lane, given-lane, other-lane, with_waiting, waits}
use Rattle.mbj_manager.proofs.Times.{times-here, times-there, times-joined, times-joined-other}
use Rattle.mbj_manager.proofs.StagesLeft.{next-in-lanes, next-rounds, no-more-stages}
use Rattle.mbj_manager.proofs.Standing.{same-stands}
use Rattle.mbj_manager.proofs.Running.{IsFilled, IsReady, run-keeps}
use Rattle.mbj_manager.specs.Inside.Steps.{steps_ahead}

-- after comes of the machine m, and no more is ahead of it
record Follows (after m : Machine) : Type 0 where
  within : IsInCourse after
  fewer : stages_left after.left ≤ stages_left m.left
  entry_view : steps_ahead after ≤ steps_ahead m

-- the job n is out of the agenda and goes on; else the machine is as it is after each step
pub record IsTaken (n : ℕ) (m : Machine) : Type 0 where
  lanes : (k : Kind) → IsLane k (queue_for k m)
  stages : (i : ℕ) → All HasRounds (left_at i m.left)
  off : times n m.agenda ≡ 0
  absent : IsPlaced m n []
  others : (i : ℕ) → i ≢ n → Stands m i

-- ---- a job joins a lane queue

-- the lanes of the kind k with the job n at the end of the lane queue
abbrev longer : Kind → ℕ → ℕ → Machine → Queue
longer k n rest m = with_waiting (queue_for k m) ((queue_for k m).waiting ++ waits n rest ∷ [])

-- the machine with them
abbrev pub grown : Kind → ℕ → ℕ → Machine → Machine
grown k n rest m = record m { lanes = with_queue k (longer k n rest m) m.lanes }

-- the longer lane queue may be full
longer-filled : (k : Kind) (n rest : ℕ) (m : Machine) → IsLane k (queue_for k m) → 1 ≤ rest → IsFilled k (longer k n rest m)
longer-filled k n rest m lane some =
    let ws = (queue_for k m).waiting in
    let few = lane.few in
    let more = length-append ws (waits n rest ∷ []) in
    record {
      some = omega arith;
      room = omega arith;
      rests = All-push (λ w. 1 ≤ w.rest) ws (waits n rest) lane.rests some;
      blocks = lane.blocks;
    }

-- if it isn't full it is as it is after each step
not-full : (k : Kind) (l : Queue) → IsFilled k l → length l.waiting ≢ lanes_of k → IsLane k l
not-full k l filled ne = record { few = (let room = filled.room in omega arith); rests = filled.rests; blocks = filled.blocks }

-- the job that joins stands in that lane queue alone
joined-placed : (k : Kind) (n rest : ℕ) (m : Machine) (left : List Pending) → IsPlaced m n []
    → IsPlaced (grown k n rest m) n (in_lanes k rest ∷ left)
joined-placed k n rest m left absent =
    let l = longer k n rest m in
    let one : times_in n l.waiting ≡ 1 = (let more = times-joined n rest (queue_for k m).waiting in let none = absent k in omega arith) in (
      ap (λ l. times_in n l.waiting) (given-lane k l m.lanes) ∙ one,
      λ j ne. ap (λ l. times_in n l.waiting) (other-lane k j l m.lanes ne) ∙ absent j,
    )

-- another job stands where it did
joined-other : (k : Kind) (n rest i : ℕ) (m : Machine) → i ≢ n → Stands m i → Stands (grown k n rest m) i
joined-other k n rest i m ne stands =
    same-stands m (grown k n rest m) i
    (each-lane (λ j l. times_in i l.waiting ≡ times_in i (queue_for j m).waiting) k (longer k n rest m) m.lanes
    (times-joined-other i n rest (queue_for k m).waiting (λ e. ne (sym e))) (λ j ne. refl))
    refl refl stands

-- the machine whose lane queue the job joined may run that lane queue
pub grown-ready : (k : Kind) (n rest : ℕ) (left : List Pending) (m : Machine) → IsTaken n m → left_at n m.left ≡ in_lanes k rest ∷ left
    → IsReady k (grown k n rest m)
grown-ready k n rest left m taken next =
    let l = longer k n rest m in
    let some : 1 ≤ rest = All-head HasRounds (in_lanes k rest) left (subst (All HasRounds) next (taken.stages n)) in
    record {
      others = λ j ne. subst (IsLane j) (sym (other-lane k j l m.lanes ne)) (taken.lanes j);
      lane = subst (IsFilled k) (sym (given-lane k l m.lanes)) (longer-filled k n rest m (taken.lanes k) some);
      stages = taken.stages;
      stands = λ i. elim (cases_eq n i) [
        | inl e ↦ subst (Stands (grown k n rest m)) e
            (inr (taken.off, subst (IsPlaced (grown k n rest m) n) (sym next) (joined-placed k n rest m left taken.absent)))
        | inr ne ↦ joined-other k n rest i m (λ e. ne (sym e)) (taken.others i (λ e. ne (sym e)))
      ];
    }

-- a job joins the lane queue of its next stage, which runs if it is full
joins : (at : Cause) (k : Kind) (n rest : ℕ) (left : List Pending) (m : Machine) → IsTaken n m
    → left_at n m.left ≡ in_lanes k rest ∷ left → Follows (joined at k n rest m) m
joins at k n rest left m taken next =
    let l = longer k n rest m in
    let g = grown k n rest m in
    let ready = grown-ready k n rest left m taken next in
    let given = given-lane k l m.lanes in
    cond_both (length (queue_for k g).waiting == lanes_of k) (run_within at k g) g (λ after. Follows after m)
    (λ full. (let run = run-keeps at k g ready (eqb-true (length (queue_for k g).waiting) (lanes_of k) full) in
    let fewer = run.fewer in
    record { within = run.within; fewer = omega arith; entry_view = run.entry_view }))
    (λ room. record {
      within = record {
        lanes = each-lane IsLane k l m.lanes
            (subst (IsLane k) given (not-full k (queue_for k g) ready.lane (eqb-false (length (queue_for k g).waiting) (lanes_of k) room)))
            (λ j ne. taken.lanes j);
        stages = ready.stages;
        stands = ready.stands;
      };
      fewer = omega arith;
      entry_view = omega arith;
    })

-- ---- a job is taken

-- the machine whose agenda had the job n in front of these
abbrev pub take_first : ℕ → List ℕ → Machine → Machine
take_first n agenda m = record m { left = changed in_lanes_next n m.left; agenda = agenda }

-- the agenda's first stands there once and in no lane queue
pub first-off : (n : ℕ) (agenda : List ℕ) (m : Machine) → m.agenda ≡ n ∷ agenda → Stands m n
    → (times n agenda ≡ 0) × IsPlaced m n []
first-off n agenda m first stands =
    let here : times n m.agenda ≡ 1 + times n agenda = ap (times n) first ∙ times-here n agenda in
    elim stands [ inl a ↦ ((let one = a.0 in omega arith), a.1) | inr p ↦ absurd (let none = p.0 in omega arith) ]

-- once it is taken it goes on
pub takes : (n : ℕ) (agenda : List ℕ) (m : Machine) → m.agenda ≡ n ∷ agenda → IsInCourse m → IsTaken n (take_first n agenda m)
takes n agenda m first within =
    let off = first-off n agenda m first (within.stands n) in
    record {
      lanes = within.lanes;
      stages = each-changed (All HasRounds) in_lanes_next [] next-rounds n m.left within.stages;
      off = off.0;
      absent = off.1;
      others = λ i ne. same-stands m (take_first n agenda m) i (λ j. refl) (other-changed in_lanes_next [] n i m.left ne)
          (sym (ap (times i) first ∙ times-there i n agenda (λ e. ne (sym e)))) (within.stands i);
    }

-- the job that is taken is finished, or joins the lane queue of its next stage
goes : (at : Cause) (n : ℕ) (ps : List Pending) (m : Machine) → IsTaken n m → left_at n m.left ≡ ps
    → ((left : List Pending) → ps ≢ at_once ∷ left) → Follows (goes_on at n ps m) m
goes at n [] m taken next in_lanes_now = record {
  within = record {
    lanes = taken.lanes;
    stages = taken.stages;
    stands = λ i. elim (cases_eq n i) [
      | inl e ↦ subst (Stands m) e (inr (taken.off, subst (IsPlaced m n) (sym next) taken.absent))
      | inr ne ↦ taken.others i (λ e. ne (sym e))
    ];
  };
  fewer = omega arith;
  entry_view = omega arith;
}
goes at n (at_once ∷ left) m taken next in_lanes_now = elim (in_lanes_now left refl) [ ]
goes at n (in_lanes k rest ∷ left) m taken next in_lanes_now = joins at k n rest left m taken next

-- after is the machine m after a step
pub record IsStep (after m : Machine) : Type 0 where
  pub within : IsInCourse after
  pub fewer : stages_left after.left ≤ stages_left m.left
  pub entry_view : steps_ahead after < steps_ahead m

-- a step that takes the agenda's first job
pub steps : (at : Cause) (n : ℕ) (agenda : List ℕ) (m : Machine) → m.agenda ≡ n ∷ agenda → IsInCourse m
    → IsStep (stepped_at at (n ∷ agenda) m) m
steps at n agenda m first within =
    let t = take_first n agenda m in
    let go = goes at n (in_lanes_next (left_at n m.left)) t (takes n agenda m first within)
    (at-changed in_lanes_next [] refl n m.left) (next-in-lanes (left_at n m.left)) in
    let fewer = go.fewer in
    let entry_view = go.entry_view in
    let stages = no-more-stages n m.left in
    let one : length m.agenda ≡ 1 + length agenda = ap length first ∙ omega arith in
    record { within = go.within; fewer = omega arith; entry_view = omega arith }
