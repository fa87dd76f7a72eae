-- The job that was open goes last, as if it stood in the agenda.
use Rattle.std.proofs.Common.{◌≡◌, ℕ, zero, suc, ◌+◌, ◌-◌, ◌%◌, ◌≤◌, ◌<◌, List, [], ◌∷◌, ◌++◌, length, map, sum_by, Option, None, Some, inl, inr, refl, ap, ap₂, sym, ◌∙◌, subst, arith, drop, set, slice_get, take}
use Rattle.std.specs.Prelude.{All}
use Rattle.std.proofs.lemmas.Bool.{cases_eq}
use Rattle.std.proofs.lemmas.List.{length-map, length_push, map_push}
use Rattle.std.proofs.lemmas.List.Sums.{sum_by-cons}
use Rattle.std.proofs.lemmas.List.Elements.{All-cons, All-nil, All-push, All-tail}
use Rattle.mbj_types.specs.Kinds.{all_kinds, lanes_of}
use Rattle.mbj_types.specs.Result.{result_of}
use Rattle.mbj_types.specs.declared.done.Done.{Done}
use Rattle.mbj_types.specs.declared.job.Job.{Job}
use Rattle.mbj_types.specs.declared.kind.Kind.{Kind}
use Rattle.mbj_ring.specs.declared.ring.TheConstants.{CELLS}
use Rattle.mbj_ring.specs.Ring.{RingState, ring}
use Rattle.mbj_stage.specs.CourseState.{CourseState, begun, owed}
use Rattle.mbj_stage.specs.Handing.{End, without_packet}
use Rattle.mbj_stage.proofs.Owing.{owed-begun}
use Rattle.mbj_manager.specs.Machine.Stages.{Pending, pending}
use Rattle.mbj_manager.specs.Machine.Queues.{Machine}
use Rattle.mbj_manager.specs.Machine.Between.{with_stages}
use Rattle.mbj_manager.specs.Cells.{Cell, IsGoing, course_in, job_in, IsOpen}
use Rattle.mbj_manager.specs.Cells as cell
use Rattle.mbj_manager.specs.Inside.Added.{added}
use Rattle.mbj_manager.specs.Inside.Courses.{KeepsSteps, asked, courses, number, ring_number}
use Rattle.mbj_manager.specs.Inside.Leaving.{At}
use Rattle.mbj_manager.specs.Inside.QueueView.{Listed}
use Rattle.mbj_manager.specs.Inside.LaneQueues.{placed_in, total, waiting_in}
use Rattle.mbj_manager.specs.declared.lane_queues.LaneQueues.{LaneQueues}
use Rattle.mbj_manager.specs.Inside.PlacedQueue.{PlacedQueue, PlacedEntry}
use Rattle.mbj_manager.specs.Inside.Standing.{IsInCourse}
use Rattle.mbj_manager.specs.Inside.Held.{IsHeld, IsHere, IsTied, agenda_room, find_in, held, lines_in, machine_in, restored, restored_from, waiting}
use Rattle.mbj_manager.proofs.BetweenCalls.{submitted-within}
use Rattle.mbj_manager.proofs.CourseEnds.{between-calls}
use Rattle.mbj_manager.proofs.JobRounds.{pending-rounds}
use Rattle.mbj_manager.proofs.JobSteps.{begun-steps}
use Rattle.mbj_manager.proofs.Moving.{same-state}
use Rattle.mbj_manager.proofs.Restoring.{restored-length}
use Rattle.mbj_manager.proofs.RingCourses.{first-open}

-- ---- one course more

at-front : {A : Type 0} (P : A → Type 0) (n : ℕ) (xs : List A) (x : A) → At P n xs → At P n (xs ++ x ∷ [])
at-front P n [] x a = absurd a
at-front P zero (y ∷ xs) x a = a
at-front P (suc n) (y ∷ xs) x a = at-front P n xs x a

at-last : {A : Type 0} (P : A → Type 0) (xs : List A) (x : A) → P x → At P (length xs) (xs ++ x ∷ [])
at-last P [] x p = p
at-last P (y ∷ xs) x p = at-last P xs x p

listed-front : (k : Kind) (cs : List CourseState) (c : CourseState) (ws : List PlacedEntry) → Listed k cs ws → Listed k (cs ++ c ∷ []) ws
listed-front k cs c [] r = tt
listed-front k cs c (w ∷ ws) r = (at-front _ w.0 cs c r.0, r.1, listed-front k cs c ws r.2)

tied-add : (cs : List CourseState) (c : CourseState) (lines : Kind → PlacedQueue) → c.out ≡ None → IsTied cs [] lines → IsTied (cs ++ c ∷ []) (length cs ∷ []) lines
tied-add cs c lines here y =
    let more = length_push cs c in
    record {
      listed = λ k. listed-front k cs c (lines k).queued (y.listed k);
      here = λ n lt a. elim (cases_eq n (length cs)) [
        | inl e ↦ subst (λ (m : ℕ). At IsHere m (cs ++ c ∷ [])) (sym e) (at-last IsHere cs c here)
        | inr ne ↦ at-front IsHere n cs c (y.here n (omega arith) a)
      ];
      below = All-cons (λ n. n < length (cs ++ c ∷ [])) (length cs) [] (omega arith) (All-nil (λ n. n < length (cs ++ c ∷ [])));
    }

restored-end : (n : ℕ) (find : Kind → ℕ → Option End) (cs : List CourseState) (c : CourseState) → c.out ≡ None
    → restored_from n find (cs ++ c ∷ []) ≡ restored_from n find cs ++ c ∷ []
restored-end n find [] c here = rw here refl
restored-end n find (x ∷ cs) c here = ap (λ (xs : List CourseState). restored n find x ∷ xs) (restored-end (suc n) find cs c here)

-- ---- how many wait

few-in : (k : Kind) (r : RingState Cell) (ag : List ℕ) (ls : LaneQueues) (capacity : ℕ) → IsHeld r ag ls capacity → length (placed_in k ls).queued < lanes_of k
few-in k r ag ls capacity y =
    let few : length (map waiting (lines_in r ls k).queued) < lanes_of k = (y.within.lanes k).few in
    let g : PlacedEntry → PlacedEntry = λ x. (ring_number r x.0, x.1) in
    let l : length (lines_in r ls k).queued ≡ length (placed_in k ls).queued = length-map (placed_in k ls).queued g in
    omega (arith, length-map (lines_in r ls k).queued waiting)

sum-below : (f g : Kind → ℕ) (ks : List Kind) → ((k : Kind) → f k ≤ g k) → sum_by f ks ≤ sum_by g ks
sum-below f g [] h = omega arith
sum-below f g (k ∷ ks) h =
    omega (arith, sum_by-cons f k ks, sum_by-cons g k ks, sum-below f g ks h, h k)

-- between two calls there is room for one that goes on
few-wait : (r : RingState Cell) (ag : List ℕ) (ls : LaneQueues) (capacity : ℕ) → IsHeld r ag ls capacity → 1 + total ls ≤ agenda_room
few-wait r ag ls capacity y =
    let below : (k : Kind) → waiting_in ls k ≤ lanes_of k - 1 = λ k. omega (arith, few-in k r ag ls capacity y) in
    omega (arith, sum-below (waiting_in ls) (λ k. lanes_of k - 1) all_kinds below)

-- ---- the job that was open

pub map-nil : (f : ℕ → ℕ) (ns : List ℕ) → map f ns ≡ [] → ns ≡ []
map-nil f [] e = refl
map-nil f (n ∷ ns) e = cc

-- the place behind the last job has its number
pub number-last : (first len place : ℕ) → first < CELLS → len < CELLS → place ≡ (first + len) % CELLS → number first place ≡ len
number-last first len place f l e = omega arith

-- the fields then hold the state h, and keep what they keep
pub record IsAdded (r r' : RingState Cell) (ag ag' : List ℕ) (ls : LaneQueues) (capacity : ℕ) : Type 0 where
  pub is : held r' ag' ls ≡ added (held r ag ls).opened (held r ag ls)
  pub kept : IsHeld r' ag' ls capacity

abbrev one_more : RingState Cell → Cell → List Cell → RingState Cell
one_more r w vs = ring (r.values ++ w ∷ []) vs r.first

-- if the first open cell was written over and committed
commit-one : (r : RingState Cell) (os : List Cell) (v w : Cell) → os ≡ v ∷ drop 1 os
    → ring (r.values ++ take 1 (set os 0 w)) (drop 1 (set os 0 w)) r.first ≡ one_more r w (drop 1 os)
commit-one r [] v w e = cc
commit-one r (x ∷ os) v w e = refl

module _ (r : RingState Cell) (v w : Cell) (vs : List Cell) (place : ℕ) (ls : LaneQueues) (capacity : ℕ) (y : IsHeld r [] ls capacity)
    (are_open : All IsOpen vs) (began : w ≡ cell.Going (begun (job_in v))) (room : length r.values < CELLS) (last : place ≡ (r.first + length r.values) % CELLS) where
  abbrev job : Job
  job = job_in v

  abbrev r' : RingState Cell
  r' = one_more r w vs

  more-courses : courses r' ≡ courses r ++ begun job ∷ []
  more-courses = map_push course_in r.values w ∙ ap (λ (x : Cell). courses r ++ course_in x ∷ []) began

  last-number : ring_number r' place ≡ length (courses r)
  last-number = number-last r.first (length r.values) place y.ring.first room last ∙ sym (length-map r.values course_in)

  numbers : map (ring_number r') (place ∷ []) ≡ length (courses r) ∷ []
  numbers = ap (λ (n : ℕ). n ∷ []) last-number

  more-left : map pending (courses r') ≡ map pending (courses r) ++ pending (begun job) ∷ []
  more-left = ap (map pending) more-courses ∙ map_push pending (courses r) (begun job)

  abbrev machine_with : List (List Pending) → List ℕ → Machine
  machine_with left agenda = record (machine_in r [] ls) { left = left; agenda = agenda }

  machine-then : machine_in r' (place ∷ []) ls ≡ with_stages (pending (begun job)) (machine_in r [] ls)
  machine-then = ap₂ machine_with more-left (numbers ∙ ap (λ (n : ℕ). n ∷ []) (sym (length-map (courses r) pending)))

  going : IsGoing w
  going = subst IsGoing (sym began) tt

  steps : KeepsSteps w
  steps = subst KeepsSteps (sym began) (begun-steps job)

  added-kept : IsHeld r' (place ∷ []) ls capacity
  added-kept = record {
    ring = record {
      going = All-push IsGoing r.values w y.ring.going going;
      steps = All-push KeepsSteps r.values w y.ring.steps steps;
      few = omega (arith, length_push r.values w);
      first = y.ring.first;
    };
    is_open = are_open;
    within = subst IsInCourse (sym machine-then)
        (submitted-within (pending (begun job)) (machine_in r [] ls) (pending-rounds job) (between-calls (machine_in r [] ls) y.within refl));
    tied = subst (λ (cs : List CourseState). IsTied cs (map (ring_number r') (place ∷ [])) (lines_in r ls)) (sym more-courses)
        (subst (λ (ns : List ℕ). IsTied (courses r ++ begun job ∷ []) ns (lines_in r ls)) (sym numbers) (tied-add (courses r) (begun job) (lines_in r ls) refl y.tied));
    fits = few-wait r [] ls capacity y;
    room = y.room;
  }

  abbrev restored_then : List CourseState
  restored_then = restored_from 0 (find_in (lines_in r ls)) (courses r)

  more-restored : restored_from 0 (find_in (lines_in r ls)) (courses r') ≡ restored_then ++ begun job ∷ []
  more-restored = ap (restored_from 0 (find_in (lines_in r ls))) more-courses ∙ restored-end 0 (find_in (lines_in r ls)) (courses r) (begun job) refl

  owed-then : map owed (restored_from 0 (find_in (lines_in r ls)) (courses r')) ≡ map owed restored_then ++ result_of job ∷ []
  owed-then =
      ap (map owed) more-restored ∙ map_push owed restored_then (begun job)
      ∙ ap (λ (d : Done). map owed restored_then ++ d ∷ []) (owed-begun job)

  asked-then : map asked (restored_from 0 (find_in (lines_in r ls)) (courses r')) ≡ map asked restored_then ++ without_packet job ∷ []
  asked-then = ap (map asked) more-restored ∙ map_push asked restored_then (begun job)

  same-number : length (map pending (courses r)) ≡ length (map owed restored_then)
  same-number =
      length-map (courses r) pending ∙ sym (restored-length 0 (find_in (lines_in r ls)) (courses r)) ∙ sym (length-map restored_then owed)

  added-is : held r' (place ∷ []) ls ≡ added (job ∷ map job_in vs) (held r [] ls)
  added-is =
      same-state owed-then asked-then refl
      (machine-then ∙ ap (λ (n : ℕ). machine_with (map pending (courses r) ++ pending (begun job) ∷ []) (n ∷ [])) same-number) refl

adds : (r : RingState Cell) (v w : Cell) (vs : List Cell) (place : ℕ) (ag : List ℕ) (ls : LaneQueues) (capacity : ℕ) → IsHeld r ag ls capacity → map (ring_number r) ag ≡ []
    → r.opened ≡ v ∷ vs → w ≡ cell.Going (begun (job_in v)) → length r.values < CELLS → place ≡ (r.first + length r.values) % CELLS
    → IsAdded r (one_more r w vs) ag (place ∷ ag) ls capacity
adds r v w vs place ag ls capacity y idle opened began room last =
    let others = All-tail IsOpen v vs (subst (All IsOpen) opened y.is_open) in
    subst (λ (a : List ℕ). IsHeld r a ls capacity → IsAdded r (one_more r w vs) a (place ∷ a) ls capacity) (sym (map-nil (ring_number r) ag idle))
    (λ z. record {
      is = subst (λ (o : List Cell). held (one_more r w vs) (place ∷ []) ls ≡ added (map job_in o) (held r [] ls)) (sym opened)
          (added-is r v w vs place ls capacity z others began room last);
      kept = added-kept r v w vs place ls capacity z others began room last;
    }) y

-- if the first open cell was begun and committed
pub adds-committed : (r new : RingState Cell) (v w : Cell) (place : ℕ) (ag : List ℕ) (ls : LaneQueues) (capacity : ℕ) → IsHeld r ag ls capacity
    → map (ring_number r) ag ≡ [] → slice_get r.opened 0 ≡ Some v → w ≡ cell.Going (begun (job_in v)) → length r.values < CELLS
    → place ≡ (r.first + length r.values) % CELLS → new ≡ ring (r.values ++ take 1 (set r.opened 0 w)) (drop 1 (set r.opened 0 w)) r.first
    → IsAdded r new ag (place ∷ ag) ls capacity
adds-committed r new v w place ag ls capacity y idle opened began room last is =
    let first = first-open r.opened v opened in
    subst (λ (x : RingState Cell). IsAdded r x ag (place ∷ ag) ls capacity) (sym (is ∙ commit-one r r.opened v w first))
    (adds r v w (drop 1 r.opened) place ag ls capacity y idle first began room last)
