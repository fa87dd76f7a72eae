-- A step of the agenda: its first job goes on.
use Rattle.std.proofs.Common.{◌≡◌, ◌≢◌, ℕ, zero, suc, ◌+◌, ◌≤◌, ◌<◌, ◌==◌, List, [], ◌∷◌, ◌++◌, length, map, slice_index_or, Bool, true, false, cond, ◌⊎◌, inl, inr, refl, ap, ap₂, sym, ◌∙◌, subst, arith}
use Rattle.std.specs.Prelude.{All}
use Rattle.std.proofs.lemmas.Bool.{cond-true, eq-eqb}
use Rattle.std.proofs.lemmas.List.{length-append, length-map}
use Rattle.std.proofs.lemmas.List.Elements.{All-head, All-tail}
use Rattle.std.proofs.lemmas.List.Sums.{sum_by-cons}
use Rattle.mbj_types.specs.Kinds.{lanes_of}
use Rattle.mbj_types.specs.declared.kind.Kind.{Kind}
use Rattle.mbj_ring.specs.Ring.{RingState}
use Rattle.mbj_stage.specs.CourseState.{CourseState, owed, stage_of}
use Rattle.mbj_stage.specs.declared.stage.Stage.{Stage}
use Rattle.mbj_stage.specs.declared.stage.Stage.TheVariants as stage
use Rattle.mbj_manager.specs.Machine.Stages.{Pending, pending}
use Rattle.mbj_manager.specs.Machine.Queues.{Queue, WaitingJob, changed, put}
use Rattle.mbj_manager.specs.declared.lane.Cause.{Cause}
use Rattle.mbj_manager.specs.declared.lane.Cause.TheVariants as cause
use Rattle.mbj_manager.specs.Machine.Course.{goes_on, in_lanes_next, joined, stepped, stepped_at}
use Rattle.mbj_manager.specs.Machine.Between.{times_in}
use Rattle.mbj_manager.specs.Cells.{Cell, job_in, IsOpen}
use Rattle.mbj_manager.specs.Inside.Courses.{Follows, IsSameRing, asked, courses, number, ring_number}
use Rattle.mbj_manager.specs.Inside.Leaving.{At, Gives, IsAbsent, finishers, numbers, others, returned}
use Rattle.mbj_stage.specs.Handing.{End, IsNext, handed_out, taken_back}
use Rattle.mbj_manager.specs.Inside.QueueView.{QueueView, Enters, MayEnter, queue_view, joined_by, advanced_all, ran_at, ran_if_full}
use Rattle.mbj_manager.specs.Inside.LaneQueues.{queue_view_of, placed_in, with_placed}
use Rattle.mbj_manager.specs.declared.lane_queues.LaneQueues.{LaneQueues}
use Rattle.mbj_manager.specs.Inside.PlacedQueue.{EntryView, HasRest, PlacedQueue, PlacedEntry, brings_in, placed_queue, numbered_queue, rounds_in}
use Rattle.mbj_manager.specs.Inside.Standing.{IsInCourse}
use Rattle.mbj_manager.specs.Inside.Held.{IsHeld, IsHere, IsTied, find_in, found, lane_seen, lines_in, machine_by, machine_in, restored_from, waiting}
use Rattle.mbj_manager.proofs.KindLines.{put-self}
use Rattle.mbj_manager.proofs.Listing.{absent-listed}
use Rattle.mbj_manager.proofs.Joining.{at-here}
use Rattle.mbj_manager.proofs.Moving.{IsStep, have-rests, in-total, moved-length, moved-machine, moved-restored, moved-tied, ran-length, same-state}
use Rattle.mbj_manager.proofs.PendingStages.{pending-finished, pending-lane}
use Rattle.mbj_manager.proofs.Restoring.{restored-follow, restored-same}
use Rattle.mbj_manager.proofs.Seeing.{by-queue_view, enters-seen}
use Rattle.mbj_manager.proofs.Stepping.{first-off, steps}
use Rattle.mbj_manager.proofs.Tying.{at-new, put-twice, ran-list, restored-join, tied-follow, tied-join, tied-same}

-- ---- the agenda's first job has its packet

pub absent-times : (n : ℕ) (ws : List PlacedEntry) → times_in n (map waiting ws) ≡ 0 → IsAbsent n ws
absent-times n [] e = tt
absent-times n (w ∷ ws) e =
    let sum = sum_by-cons (λ (x : WaitingJob). cond {A = ℕ} (x.number == n) 1 0) (waiting w) (map waiting ws) in (
      (λ is. let one : cond {A = ℕ} (w.0 == n) 1 0 ≡ 1 = cond-true (w.0 == n) 1 0 (eq-eqb w.0 n is) in absurd (omega arith)),
      absent-times n ws (omega arith),
    )

pub first-here : (n : ℕ) (rest : List ℕ) (cs : List CourseState) (agenda : List ℕ) (lines : Kind → PlacedQueue) (runs : ℕ) → agenda ≡ n ∷ rest
    → IsInCourse (machine_by cs agenda lines runs) → IsTied cs agenda lines → At IsHere n cs
first-here n rest cs agenda lines runs first within tied =
    let m = machine_by cs agenda lines runs in
    let off = first-off n rest m first (within.stands n) in
    tied.here n (All-head (λ i. i < length cs) n rest (subst (All (λ i. i < length cs)) first tied.below))
    (λ k. absent-times n (lines k).queued (off.1 k))

-- ---- what finishes at once is done

follow-map : (c : CourseState) (n : ℕ) (cs : List CourseState) → At (Follows c) n cs → map pending (changed (λ _. c) n cs) ≡ changed in_lanes_next n (map pending cs)
follow-map c n [] f = absurd f
follow-map c zero (x ∷ cs) f = ap (λ (t : List Pending). t ∷ map pending cs) f.pending_is
follow-map c (suc n) (x ∷ cs) f = ap (λ (l : List (List Pending)). pending x ∷ l) (follow-map c n cs f)

follow-first : (c : CourseState) (n : ℕ) (cs : List CourseState) → At (Follows c) n cs → in_lanes_next (slice_index_or (map pending cs) n []) ≡ pending c
follow-first c n [] f = absurd f
follow-first c zero (x ∷ cs) f = sym f.pending_is
follow-first c (suc n) (x ∷ cs) f = follow-first c n cs f

-- the machine that the job goes on in
pub follow-step : (at : Cause) (c : CourseState) (n : ℕ) (rest : List ℕ) (cs : List CourseState) (lines : Kind → PlacedQueue) (runs : ℕ) → At (Follows c) n cs
    → stepped at (machine_by cs (n ∷ rest) lines runs) ≡ goes_on at n (pending c) (machine_by (changed (λ _. c) n cs) rest lines runs)
follow-step at c n rest cs lines runs f =
    sym (ap₂ (λ (ps : List Pending) (left : List (List Pending)). goes_on at n ps (record (machine_by cs rest lines runs) { left = left }))
    (sym (follow-first c n cs f)) (follow-map c n cs f))

at-from : {A : Type 0} (P : A → Type 0) (x : A) (n : ℕ) (xs : List A) → At P n (changed (λ _. x) n xs) → P x
at-from P x n [] a = absurd a
at-from P x zero (y ∷ xs) a = a
at-from P x (suc n) (y ∷ xs) a = at-from P x n xs a

-- ---- a job that enters a lane queue, which runs if it is full then

-- what f tells of the courses stays
record IsTiedAt {X : Type 0} (f : CourseState → X) (k : Kind) (lines : Kind → PlacedQueue) (cs : List CourseState) (d : QueueView) : Type 0 where
  tied : IsTied d.courses d.agenda (put k (placed_queue d.queued 0 0) lines)
  told : map f (restored_from 0 (find_in lines) cs) ≡ map f (restored_from 0 (find_in (put k (placed_queue d.queued 0 0) lines)) d.courses)

-- f tells the same once this entry went out and came back
abbrev Tells : {X : Type 0} → (CourseState → X) → End → CourseState → Type 0
Tells f e c = f (taken_back e (handed_out c)) ≡ f c

at-each : {A : Type 0} (P Q : A → Type 0) (n : ℕ) (xs : List A) → ((x : A) → P x → Q x) → At P n xs → At Q n xs
at-each P Q n [] h a = a
at-each P Q zero (x ∷ xs) h a = h x a
at-each P Q (suc n) (x ∷ xs) h a = at-each P Q n xs h a

-- the length of agenda and lane queue
entered-length : (at : Cause) (lanes n : ℕ) (a : EntryView) (d : QueueView) → length (ran_if_full at lanes (joined_by n a d)).agenda + length (ran_if_full at lanes (joined_by n a d)).queued
    ≡ length d.agenda + length d.queued + 1
entered-length at lanes n a d = go (length (joined_by n a d).queued == lanes)
  where
    go : (b : Bool) → length (cond b (ran_at at (joined_by n a d)) (joined_by n a d)).agenda + length (cond b (ran_at at (joined_by n a d)) (joined_by n a d)).queued
        ≡ length d.agenda + length d.queued + 1
    go true = omega (arith, ran-length at (joined_by n a d), length-append d.queued ((n, a) ∷ []))
    go false = omega (arith, length-append d.queued ((n, a) ∷ []))

module _ {X : Type 0} (f : CourseState → X) (k : Kind) (n : ℕ) (a : EntryView) (cs : List CourseState) (ag : List ℕ) (lines : Kind → PlacedQueue)
    (r b runs : ℕ) (y : IsTied cs ag lines) (next : At (IsNext k) n cs) (gives : At (Gives k a.rounds a.brings) n cs)
    (tells : (c : CourseState) → Gives k a.rounds a.brings c → Tells f a.brings c) where
  abbrev before : QueueView
  before = queue_view cs ag (lines k).queued r b runs

  abbrev join : QueueView
  join = joined_by n a before

  abbrev grown : Kind → PlacedQueue
  grown = put k (placed_queue join.queued 0 0) lines

  join-tied : IsTied join.courses ag grown
  join-tied = tied-join k (n, a) 0 0 cs ag lines next gives y

  join-told : map f (restored_from 0 (find_in lines) cs) ≡ map f (restored_from 0 (find_in grown) join.courses)
  join-told =
      restored-join f k (n, a) 0 0 cs lines (absent-listed k n cs (lines k).queued (at-here k n cs next) (y.listed k)) next
      (at-each (Gives k a.rounds a.brings) (Tells f a.brings) n cs tells gives)

  abbrev end_courses : List PlacedEntry → List CourseState
  end_courses ws = returned brings_in join.courses (finishers rounds_in (advanced_all ws))

  abbrev end_agenda : List PlacedEntry → List ℕ
  end_agenda ws = ag ++ numbers (finishers rounds_in (advanced_all ws))

  abbrev end_line : List PlacedEntry → PlacedQueue
  end_line ws = placed_queue (others rounds_in (advanced_all ws)) 0 0

  own : (grown k).queued ≡ join.queued
  own = ap (λ (x : PlacedQueue). x.queued) (put-self k (placed_queue join.queued 0 0) lines)

  run-tied : IsTied (end_courses join.queued) (end_agenda join.queued) (put k (end_line join.queued) lines)
  run-tied =
      tied-same (end_courses join.queued) (end_agenda join.queued) (put k (end_line join.queued) grown) (put k (end_line join.queued) lines)
      (put-twice k (end_line join.queued) (placed_queue join.queued 0 0) lines)
      (subst (λ (ws : List PlacedEntry). IsTied (end_courses ws) (end_agenda ws) (put k (end_line ws) grown)) own (ran-list k join.courses ag grown join-tied).tied)

  run-restored : restored_from 0 (find_in grown) join.courses ≡ restored_from 0 (find_in (put k (end_line join.queued) lines)) (end_courses join.queued)
  run-restored =
      subst (λ (ws : List PlacedEntry). restored_from 0 (find_in grown) join.courses ≡ restored_from 0 (find_in (put k (end_line ws) grown)) (end_courses ws)) own
      (ran-list k join.courses ag grown join-tied).restored
      ∙ restored-same 0 (find_in (put k (end_line join.queued) grown)) (find_in (put k (end_line join.queued) lines)) (end_courses join.queued)
      (λ j m h. ap (found m) (put-twice k (end_line join.queued) (placed_queue join.queued 0 0) lines j))

  ran-tied : (at : Cause) → IsTiedAt f k lines cs (ran_at at join)
  ran-tied cause.Submit = record { tied = run-tied; told = join-told ∙ ap (map f) run-restored }
  ran-tied cause.Flush = record { tied = run-tied; told = join-told ∙ ap (map f) run-restored }

  entered-by : (at : Cause) (full : Bool) → IsTiedAt f k lines cs (cond full (ran_at at join) join)
  entered-by at true = ran-tied at
  entered-by at false = record { tied = join-tied; told = join-told }

  entered-tied : (at : Cause) (lanes : ℕ) → IsTiedAt f k lines cs (ran_if_full at lanes join)
  entered-tied at lanes = entered-by at (length join.queued == lanes)

-- ---- the fields, once what finishes at once is done

module _ (r r1 : RingState Cell) (p : ℕ) (ag ag1 : List ℕ) (ls : LaneQueues) (capacity : ℕ) (x : CourseState) (y : IsHeld r ag ls capacity) (first : ag ≡ p ∷ ag1)
    (same : IsSameRing r1 r) (is : courses r1 ≡ changed (λ _. x) (ring_number r p) (courses r)) (follows : At (Follows x) (ring_number r p) (courses r)) where
  numbers-first : map (ring_number r) ag ≡ ring_number r p ∷ map (ring_number r) ag1
  numbers-first = ap (map (ring_number r)) first

  was-here : At IsHere (ring_number r p) (courses r)
  was-here = first-here (ring_number r p) (map (ring_number r) ag1) (courses r) (map (ring_number r) ag) (lines_in r ls) ls.flush_runs numbers-first y.within y.tied

  tied-rest : IsTied (courses r) (map (ring_number r) ag1) (lines_in r ls)
  tied-rest = record {
    listed = y.tied.listed;
    here = y.tied.here;
    below = All-tail (λ i. i < length (courses r)) (ring_number r p) (map (ring_number r) ag1) (subst (All (λ i. i < length (courses r))) numbers-first y.tied.below);
  }

  pub tied-then : IsTied (courses r1) (map (ring_number r1) ag1) (lines_in r1 ls)
  tied-then =
      subst (λ (m : ℕ). IsTied (courses r1) (map (number m) ag1) (λ j. numbered_queue (number m) (placed_in j ls))) (sym same.first)
      (subst (λ (cs : List CourseState). IsTied cs (map (ring_number r) ag1) (lines_in r ls)) (sym is)
      (tied-follow x (ring_number r p) (courses r) (map (ring_number r) ag1) (lines_in r ls) follows was-here tied-rest))

  told-then : {X : Type 0} (f : CourseState → X) → ((c : CourseState) → Follows x c → f x ≡ f c)
      → map f (restored_from 0 (find_in (lines_in r ls)) (courses r)) ≡ map f (restored_from 0 (find_in (lines_in r1 ls)) (courses r1))
  told-then f stays =
      restored-follow f 0 (find_in (lines_in r ls)) x (ring_number r p) (courses r) follows stays
      ∙ ap (λ (cs : List CourseState). map f (restored_from 0 (find_in (lines_in r ls)) cs)) (sym is)
      ∙ ap (λ (m : ℕ). map f (restored_from 0 (find_in (λ j. numbered_queue (number m) (placed_in j ls))) (courses r1))) (sym same.first)

  pub owed-then : map owed (restored_from 0 (find_in (lines_in r ls)) (courses r)) ≡ map owed (restored_from 0 (find_in (lines_in r1 ls)) (courses r1))
  owed-then = told-then owed (λ c h. h.owed_is)

  pub asked-then : map asked (restored_from 0 (find_in (lines_in r ls)) (courses r)) ≡ map asked (restored_from 0 (find_in (lines_in r1 ls)) (courses r1))
  asked-then = told-then asked (λ c h. h.asked_is)

  pub machine-then : (at : Cause) → stepped at (machine_in r ag ls) ≡ goes_on at (ring_number r1 p) (pending x) (machine_in r1 ag1 ls)
  machine-then at =
      ap (λ (a : List ℕ). stepped at (machine_by (courses r) a (lines_in r ls) ls.flush_runs)) numbers-first
      ∙ follow-step at x (ring_number r p) (map (ring_number r) ag1) (courses r) (lines_in r ls) ls.flush_runs follows
      ∙ ap (λ (cs : List CourseState). goes_on at (ring_number r p) (pending x) (machine_by cs (map (ring_number r) ag1) (lines_in r ls) ls.flush_runs)) (sym is)
      ∙ ap (λ (m : ℕ). goes_on at (number m p) (pending x) (machine_by (courses r1) (map (number m) ag1) (λ j. numbered_queue (number m) (placed_in j ls)) ls.flush_runs)) (sym same.first)

  pub within-then : (at : Cause) → IsInCourse (stepped at (machine_in r ag ls))
  within-then at =
      subst (λ (a : List ℕ). IsInCourse (stepped_at at a (machine_in r ag ls))) (sym numbers-first)
      (steps at (ring_number r p) (map (ring_number r) ag1) (machine_in r ag ls) numbers-first y.within).within

  -- a finished job
  pub finishes : (at : Cause) → pending x ≡ [] → IsStep r r1 ag ag1 ls ls (stepped at (machine_in r ag ls)) capacity
  finishes at none =
      let machine : machine_in r1 ag1 ls ≡ stepped at (machine_in r ag ls)
      = sym (machine-then at ∙ ap (λ ps. goes_on at (ring_number r1 p) ps (machine_in r1 ag1 ls)) none) in
      let fits = y.fits in
      record {
        is = same-state (sym owed-then) (sym asked-then) (ap (map job_in) same.opened) machine refl;
        kept = record {
          ring = same.courses;
          is_open = subst (All IsOpen) (sym same.opened) y.is_open;
          within = subst IsInCourse (sym machine) (within-then at);
          tied = tied-then;
          fits = omega (arith, ap length first);
          room = y.room;
        };
      }

  -- a job whose next stage is in lanes may enter them
  pub next-then : (k : Kind) → stage_of x ≡ stage.Lane k → At (IsNext k) (ring_number r1 p) (courses r1)
  next-then k st =
      subst (λ (m : ℕ). At (IsNext k) (number m p) (courses r1)) (sym same.first)
      (subst (λ (cs : List CourseState). At (IsNext k) (ring_number r p) cs) (sym is)
      (at-new (Follows x) (IsNext k) (λ _. x) (ring_number r p) (courses r) (λ z h. record { stage = st; here = h.here }) follows))

  queued-length : (q : RingState Cell) (k : Kind) → length (lines_in q ls k).queued ≡ length (placed_in k ls).queued
  queued-length q k = let g : PlacedEntry → PlacedEntry = λ w. (ring_number q w.0, w.1) in length-map (placed_in k ls).queued g

  pub may-enter : (k : Kind) → stage_of x ≡ stage.Lane k
      → MayEnter (lanes_of k) k (ring_number r1 p) (queue_view_of k (ring_number r1) (courses r1) ag1 ls) capacity
  may-enter k st =
      let lane = y.within.lanes k in
      let few : length (map waiting (lines_in r ls k).queued) < lanes_of k = lane.few in
      let rests = have-rests (lines_in r ls k).queued lane.rests in
      let fits = y.fits in
      let room = y.room in
      record {
        next = next-then k st;
        few = omega (arith, length-map (lines_in r ls k).queued waiting, queued-length r k, queued-length r1 k);
        rests = subst (λ (m : ℕ). All HasRest (numbered_queue (number m) (placed_in k ls)).queued) (sym same.first) rests;
        listed = tied-then.listed k;
        room_left = omega (arith, length-map ag1 (ring_number r1), queued-length r1 k, in-total k ls, ap length first);
      }

  -- and does so
  pub enters : (at : Cause) (k : Kind) (r2 : RingState Cell) (ag2 : List ℕ) (ls2 : LaneQueues) → stage_of x ≡ stage.Lane k → IsSameRing r2 r1
      → ls2 ≡ with_placed k (placed_in k ls2) ls2.flush_runs ls
      → Enters at (lanes_of k) k (ring_number r1 p) (queue_view_of k (ring_number r1) (courses r1) ag1 ls) (queue_view_of k (ring_number r1) (courses r2) ag2 ls2)
      → IsStep r r2 ag ag2 ls ls2 (stepped at (machine_in r ag ls)) capacity
  enters at k r2 ag2 ls2 st then others-are e =
      let n = ring_number r1 p in
      let a = e.entry in
      let d1 = queue_view_of k (ring_number r1) (courses r1) ag1 ls in
      let d = ran_if_full at (lanes_of k) (joined_by n a d1) in
      let m1 = machine_in r1 ag1 ls in
      let lanes : Kind → Queue = λ j. lane_seen (lines_in r1 ls j) in
      let gives : Gives k a.rounds a.brings x
      = at-from (Gives k a.rounds a.brings) x (ring_number r p) (courses r)
      (subst (λ (m : ℕ). At (Gives k a.rounds a.brings) (number m p) (changed (λ _. x) (ring_number r p) (courses r))) same.first
      (subst (λ (cs : List CourseState). At (Gives k a.rounds a.brings) n cs) is e.gives)) in
      let step : stepped at (machine_in r ag ls) ≡ joined at k n a.rounds m1
      = machine-then at ∙ ap (λ ps. goes_on at n ps m1) (pending-lane x k st) ∙ ap (λ (q : ℕ). joined at k n q m1) (sym gives.rest_is) in
      let machine : machine_in r2 ag2 ls2 ≡ stepped at (machine_in r ag ls)
      = moved-machine k r1 r2 ag1 ag2 ls ls2 d then others-are e.is ∙ enters-seen at k lanes n a d1
      ∙ ap (joined at k n a.rounds) (sym (by-queue_view k (lines_in r1 ls) (lines_in r1 ls) d1 refl (λ j ne. refl))) ∙ sym step in
      let owes = entered-tied owed k n a (courses r1) (map (ring_number r1) ag1) (lines_in r1 ls) (placed_in k ls).rounds (placed_in k ls).blocks ls.flush_runs
      tied-then (next-then k st) e.gives (λ c g. g.owed_is) at (lanes_of k) in
      let asks = entered-tied asked k n a (courses r1) (map (ring_number r1) ag1) (lines_in r1 ls) (placed_in k ls).rounds (placed_in k ls).blocks ls.flush_runs
      tied-then (next-then k st) e.gives (λ c g. g.asked_is) at (lanes_of k) in
      let moved = moved-restored k r1 r2 ag1 ag2 ls ls2 d then others-are e.is in
      let size = moved-length k r1 r2 ag1 ag2 ls ls2 d then others-are e.is in
      let fits = y.fits in
      record {
        is = same-state (sym (owed-then ∙ owes.told ∙ ap (map owed) moved)) (sym (asked-then ∙ asks.told ∙ ap (map asked) moved))
            (ap (map job_in) (then.opened ∙ same.opened)) machine refl;
        kept = record {
          ring = then.courses;
          is_open = subst (All IsOpen) (sym (then.opened ∙ same.opened)) y.is_open;
          within = subst IsInCourse (sym machine) (within-then at);
          tied = moved-tied k r1 r2 ag1 ag2 ls ls2 d then others-are e.is owes.tied;
          fits = omega (arith, entered-length at (lanes_of k) n a d1, length-map ag1 (ring_number r1), queued-length r1 k, ap length first);
          room = y.room;
        };
      }

-- ---- a job whose next stage isn't in lanes

not-now : (x : CourseState) (n : ℕ) (cs : List CourseState) → At (Follows x) n cs → stage_of x ≢ stage.Now
not-now x n [] f = absurd f
not-now x zero (c ∷ cs) f = f.not_now
not-now x (suc n) (c ∷ cs) f = not-now x n cs f

-- has none left
pub none-pending : (x : CourseState) (n : ℕ) (cs : List CourseState) (s : Stage) → At (Follows x) n cs → s ≡ stage_of x → (s ≡ stage.Now) ⊎ (s ≡ stage.Finished) → pending x ≡ []
none-pending x n cs s f is (inl now) = absurd (not-now x n cs f (sym is ∙ now))
none-pending x n cs s f is (inr finished) = pending-finished x (sym is ∙ finished)
