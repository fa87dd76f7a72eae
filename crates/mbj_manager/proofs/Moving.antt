-- A step of a manager's lane queues: what it comes to for the machine, for what is owed, and for what is kept.
use Rattle.std.proofs.Common.{◌≡◌, ◌≢◌, ℕ, zero, suc, ◌+◌, ◌≤◌, ◌<◌, List, [], ◌∷◌, length, map, Some, inl, inr, refl, ap, sym, ◌∙◌, subst, arith}
use Rattle.std.specs.Prelude.{All}
use Rattle.std.proofs.lemmas.List.{length-append, length-map}
use Rattle.mbj_types.specs.declared.done.Done.{Done}
use Rattle.mbj_types.specs.declared.job.Job.{Job}
use Rattle.mbj_types.specs.declared.kind.Kind.{Kind}
use Rattle.mbj_types.specs.declared.kind.Kind.TheVariants as kind
use Rattle.mbj_ring.specs.Ring.{RingState}
use Rattle.mbj_stage.specs.CourseState.{CourseState, owed}
use Rattle.mbj_manager.specs.Machine.Stages.{Pending, at_once, in_lanes, pending}
use Rattle.mbj_manager.specs.Machine.Queues.{Queue, Machine, put, run_within}
use Rattle.mbj_manager.specs.declared.lane.Cause.{Cause}
use Rattle.mbj_manager.specs.declared.lane.Cause.TheVariants as cause
use Rattle.mbj_manager.specs.State.{ManagerState}
use Rattle.mbj_manager.specs.Cells.{Cell, job_in, IsOpen}
use Rattle.mbj_manager.specs.Inside.Added.{first_lane}
use Rattle.mbj_manager.specs.Inside.Courses.{IsSameRing, asked, courses, number, ring_number}
use Rattle.mbj_manager.specs.Inside.Leaving.{finishers, numbers, others}
use Rattle.mbj_manager.specs.Inside.QueueView.{QueueView, IsReady, queue_view, advanced_all, ran_at}
use Rattle.mbj_manager.specs.Inside.LaneQueues.{queue_view_of, placed_in, total, with_placed}
use Rattle.mbj_manager.specs.declared.lane_queues.LaneQueues.{LaneQueues}
use Rattle.mbj_manager.specs.Inside.PlacedQueue.{HasRest, PlacedQueue, PlacedEntry, advanced_entry, placed_queue, numbered, numbered_queue, pair_rest, rounds_in}
use Rattle.mbj_manager.specs.Inside.Standing.{IsInCourse, left_at}
use Rattle.mbj_manager.specs.Inside.Held.{IsHeld, IsTied, find_in, found, held, lane_seen, lines_in, machine_by, machine_in, restored_from, waiting}
use Rattle.mbj_lane.specs.Rounds.{least}
use Rattle.mbj_manager.proofs.BetweenCalls.{earliest-ready}
use Rattle.mbj_manager.proofs.CourseEnds.{between-calls}
use Rattle.mbj_manager.proofs.KindLines.{put-case}
use Rattle.mbj_manager.proofs.Restoring.{restored-same}
use Rattle.mbj_manager.proofs.Running as Running
use Rattle.mbj_manager.proofs.Finishing.{zero-or}
use Rattle.mbj_manager.proofs.Seeing.{by-queue_view, machine_at, run-seen}
use Rattle.mbj_manager.proofs.Tying.{ran-list, tied-same}

-- ---- the lane queues of all kinds

line-put : (k j : Kind) (l : PlacedQueue) (n : ℕ) (ls : LaneQueues) → placed_in j (with_placed k l n ls) ≡ put k l (λ i. placed_in i ls) j
line-put kind.Cbc128 kind.Cbc128 l n ls = refl
line-put kind.Cbc192 kind.Cbc192 l n ls = refl
line-put kind.Cbc256 kind.Cbc256 l n ls = refl
line-put kind.Cmac128 kind.Cmac128 l n ls = refl
line-put kind.Cmac256 kind.Cmac256 l n ls = refl
line-put kind.HmacSha1 kind.HmacSha1 l n ls = refl
line-put kind.HmacSha256 kind.HmacSha256 l n ls = refl
line-put kind.HmacSha512 kind.HmacSha512 l n ls = refl
line-put kind.Ccm128 kind.Ccm128 l n ls = refl
line-put kind.Ccm192 kind.Ccm192 l n ls = refl
line-put kind.Ccm256 kind.Ccm256 l n ls = refl
line-put _ _ l n ls = refl

line-other : (k j : Kind) (l : PlacedQueue) (n : ℕ) (ls : LaneQueues) → j ≢ k → placed_in j (with_placed k l n ls) ≡ placed_in j ls
line-other k j l n ls ne = elim (put-case k j l (λ i. placed_in i ls)) [
  | inl e ↦ absurd (ne e.0)
  | inr e ↦ line-put k j l n ls ∙ e.1
]

total-line : (k : Kind) (ls ls' : LaneQueues) → ls' ≡ with_placed k (placed_in k ls') ls'.flush_runs ls
    → total ls' + length (placed_in k ls).queued ≡ total ls + length (placed_in k ls').queued
total-line kind.Cbc128 ls ls' e = let t = ap total e in omega arith
total-line _ ls ls' e = let t = ap total e in omega arith

-- ---- a step of the lane queue of the kind k

module _ (k : Kind) (r r' : RingState Cell) (ag ag' : List ℕ) (ls ls' : LaneQueues) (d : QueueView) (same : IsSameRing r' r)
    (others-same : ls' ≡ with_placed k (placed_in k ls') ls'.flush_runs ls) (is : queue_view_of k (ring_number r) (courses r') ag' ls' ≡ d) where
  -- the lane queues then, by the numbers of before
  abbrev after : Kind → PlacedQueue
  after j = numbered_queue (ring_number r) (placed_in j ls')

  other-lines : (j : Kind) → j ≢ k → after j ≡ lines_in r ls j
  other-lines j ne = ap (numbered_queue (ring_number r)) (ap (placed_in j) others-same ∙ line-other k j (placed_in k ls') ls'.flush_runs ls ne)

  pub moved-machine : machine_in r' ag' ls' ≡ machine_at k (λ j. lane_seen (lines_in r ls j)) d
  moved-machine =
      ap (λ (n : ℕ). machine_by (courses r') (map (number n) ag') (λ j. numbered_queue (number n) (placed_in j ls')) ls'.flush_runs) same.first
      ∙ by-queue_view k (lines_in r ls) after (queue_view_of k (ring_number r) (courses r') ag' ls') refl other-lines
      ∙ ap (machine_at k (λ j. lane_seen (lines_in r ls j))) is

  abbrev expected : Kind → PlacedQueue
  expected = put k (placed_queue d.queued 0 0) (lines_in r ls)

  same-waits : (j : Kind) → (expected j).queued ≡ (after j).queued
  same-waits j = elim (put-case k j (placed_queue d.queued 0 0) (lines_in r ls)) [
    | inl e ↦ ap (λ (x : PlacedQueue). x.queued) e.1 ∙ sym (ap (λ (x : QueueView). x.queued) is) ∙ ap (λ i. (after i).queued) (sym e.0)
    | inr e ↦ ap (λ (x : PlacedQueue). x.queued) (e.1 ∙ sym (other-lines j e.0))
  ]

  pub moved-tied : IsTied d.courses d.agenda expected → IsTied (courses r') (map (ring_number r') ag') (lines_in r' ls')
  moved-tied y =
      subst (λ (n : ℕ). IsTied (courses r') (map (number n) ag') (λ j. numbered_queue (number n) (placed_in j ls'))) (sym same.first)
      (subst (λ (x : QueueView). IsTied x.courses x.agenda after) (sym is) (tied-same d.courses d.agenda expected after same-waits y))

  pub moved-restored : restored_from 0 (find_in expected) d.courses ≡ restored_from 0 (find_in (lines_in r' ls')) (courses r')
  moved-restored =
      restored-same 0 (find_in expected) (find_in after) d.courses (λ j m h. ap (found m) (same-waits j))
      ∙ sym (ap (λ (x : QueueView). restored_from 0 (find_in after) x.courses) is)
      ∙ ap (λ (n : ℕ). restored_from 0 (find_in (λ j. numbered_queue (number n) (placed_in j ls'))) (courses r')) (sym same.first)

  pub moved-length : length ag' + total ls' + length (placed_in k ls).queued ≡ length d.agenda + length d.queued + total ls
  moved-length =
      let a : length (map (ring_number r) ag') ≡ length d.agenda = ap (λ (x : QueueView). length x.agenda) is in
      let w : length (numbered (ring_number r) (placed_in k ls').queued) ≡ length d.queued = ap (λ (x : QueueView). length x.queued) is in
      let g : PlacedEntry → PlacedEntry = λ x. (ring_number r x.0, x.1) in
      let l : length (numbered (ring_number r) (placed_in k ls').queued) ≡ length (placed_in k ls').queued = length-map (placed_in k ls').queued g in
      omega (arith, total-line k ls ls' others-same, length-map ag' (ring_number r))

-- ---- how many there are

finish-length : (ws : List PlacedEntry) → length (numbers (finishers rounds_in ws)) + length (others rounds_in ws) ≡ length ws
finish-length [] = refl
finish-length (w ∷ ws) = elim (zero-or w.1.rounds) [
  | inl z ↦ rw z.1 (omega (arith, finish-length ws))
  | inr z ↦ rw z (omega (arith, finish-length ws))
]

pub ran-length : (at : Cause) (d : QueueView) → length (ran_at at d).agenda + length (ran_at at d).queued ≡ length d.agenda + length d.queued
ran-length cause.Submit d =
    omega (arith, length-append d.agenda (numbers (finishers rounds_in (advanced_all d.queued))), finish-length (advanced_all d.queued), length-map d.queued (advanced_entry (least (pair_rest rounds_in) d.queued)))
ran-length cause.Flush d =
    omega (arith, length-append d.agenda (numbers (finishers rounds_in (advanced_all d.queued))), finish-length (advanced_all d.queued), length-map d.queued (advanced_entry (least (pair_rest rounds_in) d.queued)))

-- ---- the lane queue of the earliest job

first-stage : (left : List (List Pending)) (k : Kind) → first_lane left ≡ Some k → (rest : ℕ) × ((ps : List Pending) × (left_at 0 left ≡ in_lanes k rest ∷ ps))
first-stage [] k h = cc
first-stage ([] ∷ left) k h = cc
first-stage ((at_once ∷ ps) ∷ left) k h = cc
first-stage ((in_lanes j rest ∷ ps) ∷ left) k h = let e : j ≡ k = cc in (rest, (ps, ap (λ (i : Kind). in_lanes i rest ∷ ps) e))

pub first-machine : (k : Kind) (m : Machine) → m.agenda ≡ [] → first_lane m.left ≡ Some k → IsInCourse m → Running.IsReady k m
first-machine k m idle first within =
    let s = first-stage m.left k first in earliest-ready k s.0 s.1.0 m s.1.1 (between-calls m within idle)

pub have-rests : (ws : List PlacedEntry) → All (λ w. 1 ≤ w.rest) (map waiting ws) → All HasRest ws
have-rests [] a n d lt = absurd (omega arith)
have-rests (w ∷ ws) a zero d lt = a 0 (waiting w) (omega arith)
have-rests (w ∷ ws) a (suc n) d lt = have-rests ws (λ i x l. a (suc i) x (omega arith)) n d (omega arith)

pub first-ready : (k : Kind) (cs : List CourseState) (agenda : List ℕ) (lines : Kind → PlacedQueue) (runs room : ℕ) → agenda ≡ [] → first_lane (map pending cs) ≡ Some k
    → IsInCourse (machine_by cs agenda lines runs) → IsTied cs agenda lines → length agenda + length (lines k).queued ≤ room
    → IsReady k (queue_view cs agenda (lines k).queued (lines k).rounds (lines k).blocks runs) room
first-ready k cs agenda lines runs room idle first within tied fits =
    let m = machine_by cs agenda lines runs in
    let ready = first-machine k m idle first within in
    let some : 0 < length (map waiting (lines k).queued) = ready.lane.some in
    record {
      some = omega (arith, length-map (lines k).queued waiting);
      rests = have-rests (lines k).queued ready.lane.rests;
      listed = tied.listed k;
      room_left = fits;
    }

pub in-total : (k : Kind) (ls : LaneQueues) → length (placed_in k ls).queued ≤ total ls
in-total kind.Cbc128 ls = omega arith
in-total _ ls = omega arith

-- ---- steps of a manager's fields

-- the fields then hold the state with the machine m, and keep what they keep
pub record IsStep (r r' : RingState Cell) (ag ag' : List ℕ) (ls ls' : LaneQueues) (m : Machine) (capacity : ℕ) : Type 0 where
  pub is : held r' ag' ls' ≡ record (held r ag ls) { machine = m }
  pub kept : IsHeld r' ag' ls' capacity

abbrev state : List Done → List Job → List Job → Machine → ℕ → ManagerState
state owed jobs opened machine expansions = record { owed = owed; jobs = jobs; opened = opened; machine = machine; expansions = expansions }

pub same-state : {a b : List Done} {i j : List Job} {o p : List Job} {m n : Machine} {x y : ℕ} → a ≡ b → i ≡ j → o ≡ p → m ≡ n → x ≡ y
    → state a i o m x ≡ state b j p n y
same-state owed jobs opened machine expansions = rw (owed, jobs, opened, machine, expansions) refl

-- how many may join or leave a list
pub room-in : (k : Kind) (r : RingState Cell) (ag : List ℕ) (ls : LaneQueues) (capacity : ℕ) → IsHeld r ag ls capacity
    → length (map (ring_number r) ag) + length (lines_in r ls k).queued ≤ capacity
room-in k r ag ls capacity y =
    let g : PlacedEntry → PlacedEntry = λ x. (ring_number r x.0, x.1) in
    let l : length (lines_in r ls k).queued ≡ length (placed_in k ls).queued = length-map (placed_in k ls).queued g in
    let fits = y.fits in
    let room = y.room in
    omega (arith, in-total k ls, length-map ag (ring_number r))

-- the lane queue of the earliest job runs
pub runs-first : (k : Kind) (r r' : RingState Cell) (ag ag' : List ℕ) (ls ls' : LaneQueues) (capacity : ℕ) → IsHeld r ag ls capacity
    → map (ring_number r) ag ≡ [] → first_lane (map pending (courses r)) ≡ Some k → IsSameRing r' r
    → ls' ≡ with_placed k (placed_in k ls') ls'.flush_runs ls
    → queue_view_of k (ring_number r) (courses r') ag' ls' ≡ ran_at cause.Flush (queue_view_of k (ring_number r) (courses r) ag ls)
    → IsStep r r' ag ag' ls ls' (run_within cause.Flush k (machine_in r ag ls)) capacity
runs-first k r r' ag ag' ls ls' capacity y idle first same others-are is =
    let d0 = queue_view_of k (ring_number r) (courses r) ag ls in
    let d = ran_at cause.Flush d0 in
    let m = machine_in r ag ls in
    let lanes : Kind → Queue = λ j. lane_seen (lines_in r ls j) in
    let ran = ran-list k (courses r) (map (ring_number r) ag) (lines_in r ls) y.tied in
    let machine : machine_in r' ag' ls' ≡ run_within cause.Flush k m
    = moved-machine k r r' ag ag' ls ls' d same others-are is ∙ run-seen cause.Flush k lanes d0
    ∙ ap (run_within cause.Flush k) (sym (by-queue_view k (lines_in r ls) (lines_in r ls) d0 refl (λ j ne. refl))) in
    let size = moved-length k r r' ag ag' ls ls' d same others-are is in
    let g : PlacedEntry → PlacedEntry = λ x. (ring_number r x.0, x.1) in
    let l : length d0.queued ≡ length (placed_in k ls).queued = length-map (placed_in k ls).queued g in
    let fits = y.fits in
    let restored = sym (ran.restored ∙ moved-restored k r r' ag ag' ls ls' d same others-are is) in
    record {
      is = same-state (ap (map owed) restored) (ap (map asked) restored) (ap (map job_in) same.opened) machine refl;
      kept = record {
        ring = same.courses;
        is_open = subst (All IsOpen) (sym same.opened) y.is_open;
        within = subst IsInCourse (sym machine) (Running.idle-keeps k m (first-machine k m idle first y.within)).within;
        tied = moved-tied k r r' ag ag' ls ls' d same others-are is ran.tied;
        fits = omega (arith, ran-length cause.Flush d0, length-map ag (ring_number r));
        room = y.room;
      };
    }
