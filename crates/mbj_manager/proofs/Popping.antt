-- The earliest job, which is finished, is given back: the numbers of the others are one lower.
use Rattle.std.proofs.Common.{◌≡◌, ◌≢◌, ℕ, zero, suc, ◌+◌, ◌-◌, ◌%◌, ◌≤◌, ◌<◌, List, [], ◌∷◌, length, map, cond, eqb, slice_get, Option, Some, None, inr, refl, ap, ap₂, sym, ◌∙◌, subst, arith}
use Rattle.std.proofs.Math.Dec.{eqb-suc-suc}
use Rattle.std.proofs.lemmas.List.Elements.{All-nil, All-tail}
use mathlib.Core.Path.{fun_ext}
use Rattle.mbj_types.specs.declared.done.Done.{Done}
use Rattle.mbj_types.specs.declared.kind.Kind.{Kind}
use Rattle.mbj_ring.specs.declared.ring.TheConstants.{CELLS}
use Rattle.mbj_ring.specs.Ring.{RingState, ring, without_first}
use Rattle.mbj_stage.specs.CourseState.{CourseState, owed, stage_of}
use Rattle.mbj_stage.specs.Handing.{End, IsOut}
use Rattle.mbj_stage.specs.declared.stage.Stage.{Stage}
use Rattle.mbj_stage.specs.declared.stage.Stage.TheVariants as stage
use Rattle.mbj_manager.specs.Machine.Stages.{Pending, pending}
use Rattle.mbj_manager.specs.Machine.Queues.{Queue, Machine, WaitingJob, queue_for}
use Rattle.mbj_manager.specs.Machine.Between.{IsBetweenCalls}
use Rattle.mbj_manager.specs.State.{ManagerState, after_get_completed, given_at, renumbered}
use Rattle.mbj_manager.specs.Cells as cell
use Rattle.mbj_manager.specs.Cells.{Cell, IsFinished, IsGoing, course_in}
use Rattle.mbj_manager.proofs.RingCourses.{each-at}
use Rattle.mbj_manager.specs.Inside.Courses.{KeepsSteps, asked, courses, number, ring_number}
use Rattle.mbj_manager.specs.Inside.Leaving.{At, IsAbsent}
use Rattle.mbj_manager.specs.Inside.QueueView.{Listed}
use Rattle.mbj_manager.specs.Inside.LaneQueues.{placed_in}
use Rattle.mbj_manager.specs.declared.lane_queues.LaneQueues.{LaneQueues}
use Rattle.mbj_manager.specs.Inside.PlacedQueue.{PlacedQueue, PlacedEntry, placed_queue, numbered}
use Rattle.mbj_manager.specs.Inside.Standing.{IsInCourse, times}
use Rattle.mbj_manager.specs.Inside.Held.{IsHeld, IsTied, find_in, found, held, lane_seen, lines_in, machine_in, back_by, restored, restored_by, restored_from, restored_here, waiting}
use Rattle.mbj_manager.proofs.Adding.{map-nil}
use Rattle.mbj_manager.proofs.CourseEnds.{between-calls, lanes-between, stages-at}
use Rattle.mbj_manager.proofs.GivingBack.{back-between, earlier, without_earliest}
use Rattle.mbj_manager.proofs.Moving.{same-state}
use Rattle.mbj_manager.proofs.PendingStages.{finished-pending}

-- ---- lane queues with numbers one lower

abbrev lower : PlacedEntry → PlacedEntry
lower w = (w.0 - 1, w.1)

abbrev low : PlacedQueue → PlacedQueue
low l = placed_queue (map lower l.queued) l.rounds l.blocks

-- the course of the job is behind the first one, which is finished
behind : (k : Kind) (e : End) (n : ℕ) (c : CourseState) (cs : List CourseState) → stage_of c ≡ stage.Finished → At (IsOut k e) n (c ∷ cs)
    → (m : ℕ) × ((n ≡ suc m) × At (IsOut k e) m cs)
behind k e zero c cs done a = let is = a.stage in cc
behind k e (suc m) c cs done a = (m, (refl, a))

-- no job of the lane queue is the first one
abbrev AreLater : List PlacedEntry → Type 0
AreLater [] = Unit {0}
AreLater (w ∷ ws) = (1 ≤ w.0) × AreLater ws

later : (k : Kind) (c : CourseState) (cs : List CourseState) (ws : List PlacedEntry) → stage_of c ≡ stage.Finished → Listed k (c ∷ cs) ws → AreLater ws
later k c cs [] done r = tt
later k c cs (w ∷ ws) done r = let b = behind k w.1.brings w.0 c cs done r.0 in (omega (arith, b.1.0), later k c cs ws done r.2)

absent-low : (n : ℕ) (ws : List PlacedEntry) → 1 ≤ n → AreLater ws → IsAbsent n ws → IsAbsent (n - 1) (map lower ws)
absent-low n [] some l a = tt
absent-low n (w ∷ ws) some l a = let first = l.0 in ((λ e. a.0 (omega (arith, e, first))), absent-low n ws some l.1 a.1)

low-absent : (n : ℕ) (ws : List PlacedEntry) → IsAbsent n (map lower ws) → IsAbsent (suc n) ws
low-absent n [] a = tt
low-absent n (w ∷ ws) a = ((λ e. a.0 (omega (arith, e))), low-absent n ws a.1)

listed-low : (k : Kind) (c : CourseState) (cs : List CourseState) (ws : List PlacedEntry) → stage_of c ≡ stage.Finished → Listed k (c ∷ cs) ws → Listed k cs (map lower ws)
listed-low k c cs [] done r = tt
listed-low k c cs (w ∷ ws) done r =
    let b = behind k w.1.brings w.0 c cs done r.0 in
    let is : w.0 - 1 ≡ b.0 = omega (arith, b.1.0) in
    (subst (λ (m : ℕ). At (IsOut k w.1.brings) m cs) (sym is) b.1.1, absent-low w.0 ws (omega (arith, b.1.0)) (later k c cs ws done r.2) r.1, listed-low k c cs ws done r.2)

same-test : (n m : ℕ) → 1 ≤ m → eqb (suc n) m ≡ eqb n (m - 1)
same-test n zero some = absurd (omega arith)
same-test n (suc m) some = let e : suc m - 1 ≡ m = omega arith in rw (e, eqb-suc-suc) refl

found-low : (n : ℕ) (ws : List PlacedEntry) → AreLater ws → found (suc n) ws ≡ found n (map lower ws)
found-low n [] l = refl
found-low n (w ∷ ws) l =
    ap₂ (λ b (r : Option End). cond b (Some w.1.brings) r) (same-test n w.0 l.0) (found-low n ws l.1)

-- ---- what holds without the first course

tied-low : (c : CourseState) (cs : List CourseState) (lines : Kind → PlacedQueue) → stage_of c ≡ stage.Finished → IsTied (c ∷ cs) [] lines → IsTied cs [] (λ k. low (lines k))
tied-low c cs lines done y = record {
  listed = λ k. listed-low k c cs (lines k).queued done (y.listed k);
  here = λ n lt a. y.here (suc n) (omega arith) (λ k. low-absent n (lines k).queued (a k));
  below = All-nil (λ n. n < length cs);
}

by-low : (n : ℕ) (find find' : Kind → ℕ → Option End) (s : Stage) (c : CourseState) → ((k : Kind) → find k (suc n) ≡ find' k n)
    → restored_by s (suc n) find c ≡ restored_by s n find' c
by-low n find find' stage.Now c h = refl
by-low n find find' stage.Finished c h = refl
by-low n find find' (stage.Lane k) c h = ap (back_by c) (h k)

restored-low : (n : ℕ) (find find' : Kind → ℕ → Option End) (cs : List CourseState) → ((k : Kind) (m : ℕ) → find k (suc m) ≡ find' k m)
    → restored_from (suc n) find cs ≡ restored_from n find' cs
restored-low n find find' [] h = refl
restored-low n find find' (c ∷ cs) h =
    let first : restored (suc n) find c ≡ restored n find' c
    = ap (restored_here c.out c) (by-low n find find' (stage_of c) c (λ k. h k n)) in
    ap₂ (λ (x : CourseState) (xs : List CourseState). x ∷ xs) first (restored-low (suc n) find find' cs h)

finished-restored : (n : ℕ) (find : Kind → ℕ → Option End) (out : Option ℕ) (s : Stage) (c : CourseState) → s ≡ stage.Finished
    → restored_here out c (restored_by s n find c) ≡ c
finished-restored n find None s c done = refl
finished-restored n find (Some m) s c done = ap (λ (s : Stage). restored_by s n find c) done

-- ---- places and numbers

number-low : (first place : ℕ) → first < CELLS → 1 ≤ number first place → number ((first + 1) % CELLS) place ≡ number first place - 1
number-low first place f some = omega arith

numbered-low : (first : ℕ) (ws : List PlacedEntry) → first < CELLS → AreLater (numbered (number first) ws)
    → numbered (number ((first + 1) % CELLS)) ws ≡ map lower (numbered (number first) ws)
numbered-low first [] f l = refl
numbered-low first (w ∷ ws) f l =
    ap₂ (λ (n : ℕ) (r : List PlacedEntry). (n, w.1) ∷ r) (number-low first w.0 f l.0) (numbered-low first ws f l.1)

waiting-low : (ws : List PlacedEntry) → map waiting (map lower ws) ≡ map earlier (map waiting ws)
waiting-low [] = refl
waiting-low (w ∷ ws) = ap (λ (r : List WaitingJob). earlier (waiting w) ∷ r) (waiting-low ws)

-- what holds between two calls holds after each step
between-within : (m : Machine) → IsBetweenCalls m → IsInCourse m
between-within m between = record {
  lanes = lanes-between m between;
  stages = stages-at m.left between.stages;
  stands = λ n. inr (ap (times n) between.agenda, between.placed n);
}

-- ---- the ring without its first course

-- the course in the cell v is finished, its result is given back, and the fields then hold the state that is left
pub record IsGiven (r : RingState Cell) (v : Cell) (ag : List ℕ) (ls : LaneQueues) (capacity : ℕ) : Type 0 where
  pub finished : stage_of (course_in v) ≡ stage.Finished
  pub result : Some (owed (course_in v)) ≡ (after_get_completed (held r ag ls)).0
  pub is : held (without_first r) ag ls ≡ (after_get_completed (held r ag ls)).1
  pub kept : IsHeld (without_first r) ag ls capacity

module _ (v : Cell) (vs : List Cell) (o : List Cell) (first : ℕ) (ls : LaneQueues) (capacity : ℕ) (y : IsHeld (ring (v ∷ vs) o first) [] ls capacity)
    (none : pending (course_in v) ≡ []) where
  abbrev r : RingState Cell
  r = ring (v ∷ vs) o first

  abbrev r' : RingState Cell
  r' = ring vs o ((first + 1) % CELLS)

  abbrev lines : Kind → PlacedQueue
  lines = lines_in r ls

  done : stage_of (course_in v) ≡ stage.Finished
  done = finished-pending (course_in v) none

  are-later : (k : Kind) → AreLater (lines k).queued
  are-later k = later k (course_in v) (map course_in vs) (lines k).queued done (y.tied.listed k)

  lines-low : (k : Kind) → lines_in r' ls k ≡ low (lines k)
  lines-low k =
      ap (λ (ws : List PlacedEntry). placed_queue ws (placed_in k ls).rounds (placed_in k ls).blocks) (numbered-low first (placed_in k ls).queued y.ring.first (are-later k))

  lane-low : (k : Kind) → lane_seen (lines_in r' ls k) ≡ renumbered (queue_for k (machine_in r [] ls))
  lane-low k =
      ap lane_seen (lines-low k)
      ∙ ap (λ (ws : List WaitingJob). record { waiting = ws; rounds = (placed_in k ls).rounds; blocks = (placed_in k ls).blocks }) (waiting-low (lines k).queued)

  abbrev left_then : List (List Pending)
  left_then = map pending (map course_in vs)

  machine-then : machine_in r' [] ls ≡ without_earliest left_then (machine_in r [] ls)
  machine-then =
      ap (λ (f : Kind → Queue). record { left = left_then; lanes = f; agenda = []; flush_runs = ls.flush_runs }) (fun_ext lane-low)

  left-is : (machine_in r [] ls).left ≡ [] ∷ left_then
  left-is = ap (λ (ps : List Pending). ps ∷ left_then) none

  kept-then : IsHeld r' [] ls capacity
  kept-then = record {
    ring = record {
      going = All-tail IsGoing v vs y.ring.going;
      steps = All-tail KeepsSteps v vs y.ring.steps;
      few = (let few = y.ring.few in omega arith);
      first = omega arith;
    };
    is_open = y.is_open;
    within = subst IsInCourse (sym machine-then) (between-within (without_earliest left_then (machine_in r [] ls))
        (back-between left_then (machine_in r [] ls) left-is (between-calls (machine_in r [] ls) y.within refl)));
    tied = subst (λ (f : Kind → PlacedQueue). IsTied (map course_in vs) [] f) (sym (fun_ext lines-low)) (tied-low (course_in v) (map course_in vs) lines done y.tied);
    fits = y.fits;
    room = y.room;
  }

  restored-then : restored_from 1 (find_in lines) (map course_in vs) ≡ restored_from 0 (find_in (lines_in r' ls)) (map course_in vs)
  restored-then =
      restored-low 0 (find_in lines) (find_in (lines_in r' ls)) (map course_in vs)
      (λ k n. found-low n (lines k).queued (are-later k) ∙ sym (ap (λ (l : PlacedQueue). found n l.queued) (lines-low k)))

  abbrev answer : Option Done × ManagerState
  answer = (
    Some (owed (restored 0 (find_in lines) (course_in v))),
    record {
      owed = map owed (restored_from 1 (find_in lines) (map course_in vs));
      jobs = map asked (restored_from 1 (find_in lines) (map course_in vs));
      opened = (held r [] ls).opened;
      machine = without_earliest left_then (machine_in r [] ls);
      expansions = 0;
    },
  )

  given-is : after_get_completed (held r [] ls) ≡ answer
  given-is = ap (λ (ps : List Pending). given_at (held r [] ls).owed (ps ∷ left_then) (held r [] ls)) none

  given-then : IsGiven r v [] ls capacity
  given-then = record {
    finished = done;
    result = ap (λ (c : CourseState). Some (owed c))
        (sym (finished-restored 0 (find_in lines) (course_in v).out (stage_of (course_in v)) (course_in v) done))
        ∙ sym (ap (λ (a : Option Done × ManagerState). a.0) given-is);
    is = same-state (ap (map owed) (sym restored-then)) (ap (map asked) (sym restored-then)) refl machine-then refl
        ∙ sym (ap (λ (a : Option Done × ManagerState). a.1) given-is);
    kept = kept-then;
  }

first-none : (vs : List Cell) (v : Cell) → slice_get vs 0 ≡ Some v → slice_get (map pending (map course_in vs)) 0 ≡ Some [] → pending (course_in v) ≡ []
first-none [] v e done = cc
first-none (x ∷ vs) v e done = let is : x ≡ v = cc in let none : pending (course_in x) ≡ [] = cc in subst (λ (c : Cell). pending (course_in c) ≡ []) is none

pops-at : (vs : List Cell) (v : Cell) (o : List Cell) (first : ℕ) (ls : LaneQueues) (capacity : ℕ) → IsHeld (ring vs o first) [] ls capacity
    → slice_get vs 0 ≡ Some v → pending (course_in v) ≡ [] → IsGiven (ring vs o first) v [] ls capacity
pops-at [] v o first ls capacity y e none = cc
pops-at (x ∷ vs) v o first ls capacity y e none =
    let is : x ≡ v = cc in
    subst (λ (c : Cell). pending (course_in c) ≡ [] → IsGiven (ring (x ∷ vs) o first) c [] ls capacity) is (given-then x vs o first ls capacity y) none

pub pops : (r : RingState Cell) (v : Cell) (ag : List ℕ) (ls : LaneQueues) (capacity : ℕ) → IsHeld r ag ls capacity → map (ring_number r) ag ≡ []
    → slice_get (map pending (courses r)) 0 ≡ Some [] → slice_get r.values 0 ≡ Some v → IsGiven r v ag ls capacity
pops r v ag ls capacity y idle done e =
    subst (λ (a : List ℕ). IsHeld r a ls capacity → IsGiven r v a ls capacity) (sym (map-nil (ring_number r) ag idle))
    (λ z. pops-at r.values v r.opened r.first ls capacity z e (first-none r.values v e done)) y

-- likewise by the state that the fields hold
pub pops-of : (h : ManagerState) (r : RingState Cell) (v : Cell) (o : Option Cell) (ag : List ℕ) (ls : LaneQueues) (capacity : ℕ) → held r ag ls ≡ h
    → IsHeld r ag ls capacity → h.machine.agenda ≡ [] → slice_get h.machine.left 0 ≡ Some [] → o ≡ slice_get r.values 0 → o ≡ Some v
    → IsGiven r v ag ls capacity
pops-of h r v o ag ls capacity is y idle done value e =
    pops r v ag ls capacity y (subst (λ (h : ManagerState). h.machine.agenda ≡ []) (sym is) idle)
    (subst (λ (h : ManagerState). slice_get h.machine.left 0 ≡ Some []) (sym is) done) (sym value ∙ e)

not-given-at : (ds : List Done) (left : List (List Pending)) (h : ManagerState) → slice_get left 0 ≢ Some [] → given_at ds left h ≡ (None, h)
not-given-at [] left h n = refl
not-given-at (d ∷ ds) [] h n = refl
not-given-at (d ∷ ds) ([] ∷ left) h n = absurd (n refl)
not-given-at (d ∷ ds) ((p ∷ ps) ∷ left) h n = refl

-- if the earliest job isn't finished nothing is given back
pub not-given : (h : ManagerState) → slice_get h.machine.left 0 ≢ Some [] → after_get_completed h ≡ (None, h)
not-given h n = not-given-at h.owed h.machine.left h n

-- ---- the cell of the earliest job, if that job is finished

there-is : (vs : List Cell) → slice_get (map pending (map course_in vs)) 0 ≡ Some [] → (v : Cell) × (slice_get vs 0 ≡ Some v)
there-is [] done = cc
there-is (v ∷ vs) done = (v, refl)

some-first : (vs : List Cell) (v : Cell) → slice_get vs 0 ≡ Some v → 0 < length vs
some-first [] v e = cc
some-first (x ∷ vs) v e = omega arith

finished-going : (v : Cell) → IsGoing v → stage_of (course_in v) ≡ stage.Finished → IsFinished v
finished-going (cell.Open j) going done = absurd going
finished-going (cell.Going c) going done = done

-- the first cell of the ring, which holds the earliest job, and what giving it back comes to
pub record IsFirst (r : RingState Cell) (ag : List ℕ) (ls : LaneQueues) (capacity : ℕ) : Type 0 where
  pub first : Cell
  pub is : slice_get r.values 0 ≡ Some first
  pub some : 0 < length r.values
  pub finished : IsFinished first
  pub given : IsGiven r first ag ls capacity

pub first-of : (h : ManagerState) (r : RingState Cell) (ag : List ℕ) (ls : LaneQueues) (capacity : ℕ) → held r ag ls ≡ h → IsHeld r ag ls capacity
    → h.machine.agenda ≡ [] → slice_get h.machine.left 0 ≡ Some [] → IsFirst r ag ls capacity
first-of h r ag ls capacity is y idle done =
    let there = there-is r.values (subst (λ (h : ManagerState). slice_get h.machine.left 0 ≡ Some []) (sym is) done) in
    let given = pops-of h r there.0 (slice_get r.values 0) ag ls capacity is y idle done refl there.1 in
    record {
      first = there.0;
      is = there.1;
      some = some-first r.values there.0 there.1;
      finished = finished-going there.0 (each-at IsGoing 0 r.values there.0 there.1 y.ring.going) given.finished;
      given = given;
    }

pub same-first : (vs : List Cell) (v w : Cell) → slice_get vs 0 ≡ Some v → slice_get vs 0 ≡ Some w → v ≡ w
same-first vs v w e f = let both : Some v ≡ Some w = sym e ∙ f in cc
