-- What the lane machine sees of a lane queue with the courses and the agenda.
use Rattle.std.proofs.Common.{◌≡◌, ◌≢◌, ℕ, ◌+◌, ◌%◌, ◌==◌, min, zero, suc, List, [], ◌∷◌, ◌++◌, length, map, Bool, true, false, cond, refl, ap, ap₂, sym, ◌∙◌, subst, inl, inr}
use mathlib.Core.Path.{fun_ext}
use Rattle.std.proofs.lemmas.List.{length-map, map-append}
use Rattle.mbj_lane.specs.Rounds.{least as least_of, least_from as least_of_from}
use Rattle.mbj_types.specs.Kinds.{lanes_of}
use Rattle.mbj_types.specs.declared.kind.Kind.{Kind}
use Rattle.mbj_stage.specs.CourseState.{CourseState}
use Rattle.mbj_stage.specs.Handing.{handed_out, taken_back}
use Rattle.mbj_manager.specs.Machine.Stages.{Pending, pending}
use Rattle.mbj_manager.specs.Machine.Queues.{Queue, Machine, WaitingJob, changed, count_end, queue_for, least, leavers, after_run, rest_of, run_within, shortened, stage_done, stayers, with_queue, with_run}
use Rattle.mbj_manager.specs.declared.lane.Cause.{Cause}
use Rattle.mbj_manager.specs.declared.lane.Cause.TheVariants as cause
use Rattle.mbj_manager.specs.Machine.Course.{joined, run_if_full}
use Rattle.mbj_manager.specs.Inside.Leaving.{finishers, numbers, others, returned}
use Rattle.mbj_manager.specs.Inside.QueueView.{QueueView, joined_by, advanced_all, ran_at, ran_if_full}
use Rattle.mbj_manager.specs.Inside.PlacedQueue.{EntryView, PlacedQueue, PlacedEntry, brings_in, advanced_entry, placed_queue, pair_rest, rounds_in}
use Rattle.mbj_manager.specs.Inside.Held.{lane_seen, machine_by, waiting}
use Rattle.mbj_manager.proofs.Changing.{map-unchanged}
use Rattle.mbj_manager.proofs.Lanes.{given-lane, other-lane, with_waiting, waits, again}
use Rattle.mbj_manager.proofs.KindLines.{same-kind}
use Rattle.mbj_manager.proofs.PendingStages.{pending-back, pending-out}
use Rattle.mbj_manager.proofs.Finishing.{zero-or}
use Rattle.mbj_manager.proofs.Leaving.{lowered}
use Rattle.std.specs.Prelude.{drop}

-- ---- lane queues

least_from-seen : (n : ℕ) (ws : List PlacedEntry) → least_of_from rest_of n (map waiting ws) ≡ least_of_from (pair_rest rounds_in) n ws
least_from-seen n [] = refl
least_from-seen n (w ∷ ws) = least_from-seen (min n w.1.rounds) ws

pub least-seen : (ws : List PlacedEntry) → least (map waiting ws) ≡ least_of (pair_rest rounds_in) ws
least-seen [] = refl
least-seen (w ∷ ws) = least_from-seen w.1.rounds ws

advanced-seen : (m : ℕ) (ws : List PlacedEntry) → map (lowered m) (map waiting ws) ≡ map waiting (map (advanced_entry m) ws)
advanced-seen m [] = refl
advanced-seen m (w ∷ ws) = ap (λ (r : List WaitingJob). lowered m (waiting w) ∷ r) (advanced-seen m ws)

shortened-seen : (ws : List PlacedEntry) → shortened (map waiting ws) ≡ map waiting (advanced_all ws)
shortened-seen ws =
    ap (λ (m : ℕ). map (lowered m) (map waiting ws)) (least-seen ws) ∙ advanced-seen (least_of (pair_rest rounds_in) ws) ws

others-seen : (ws : List PlacedEntry) → stayers (map waiting ws) ≡ map waiting (others rounds_in ws)
others-seen [] = refl
others-seen (w ∷ ws) = elim (zero-or w.1.rounds) [
  | inl z ↦ rw z.1 (others-seen ws)
  | inr z ↦ rw z (ap (λ (r : List WaitingJob). waiting w ∷ r) (others-seen ws))
]

leavers-seen : (ws : List PlacedEntry) → leavers (map waiting ws) ≡ numbers (finishers rounds_in ws)
leavers-seen [] = refl
leavers-seen (w ∷ ws) = elim (zero-or w.1.rounds) [
  | inl z ↦ rw z.1 (ap (λ (r : List ℕ). w.0 ∷ r) (leavers-seen ws))
  | inr z ↦ rw z (leavers-seen ws)
]

pub gone-seen : (ws : List PlacedEntry) → leavers (shortened (map waiting ws)) ≡ numbers (finishers rounds_in (advanced_all ws))
gone-seen ws = ap leavers (shortened-seen ws) ∙ leavers-seen (advanced_all ws)

pub stay-seen : (ws : List PlacedEntry) → stayers (shortened (map waiting ws)) ≡ map waiting (others rounds_in (advanced_all ws))
stay-seen ws = ap stayers (shortened-seen ws) ∙ others-seen (advanced_all ws)

-- ---- the stages that are left

pub map-changed : (f : CourseState → CourseState) (h : List Pending → List Pending) (n : ℕ) (cs : List CourseState) → ((c : CourseState) → pending (f c) ≡ h (pending c))
    → map pending (changed f n cs) ≡ changed h n (map pending cs)
map-changed f h n [] same = refl
map-changed f h zero (c ∷ cs) same = ap (λ (x : List Pending). x ∷ map pending cs) (same c)
map-changed f h (suc n) (c ∷ cs) same = ap (λ (x : List (List Pending)). pending c ∷ x) (map-changed f h n cs same)

pub returned-seen : (cs : List CourseState) (ws : List PlacedEntry) → map pending (returned brings_in cs ws) ≡ stage_done (numbers ws) (map pending cs)
returned-seen cs [] = refl
returned-seen cs (w ∷ ws) =
    returned-seen (changed (taken_back w.1.brings) w.0 cs) ws
    ∙ ap (stage_done (numbers ws)) (map-changed (taken_back w.1.brings) (drop 1) w.0 cs (λ c. pending-back c w.1.brings))

-- ---- the machine

abbrev pub lane_at : QueueView → Queue
lane_at d = lane_seen (placed_queue d.queued d.rounds d.blocks)

-- the machine with the view of the kind k's queue, and these lanes of the other kinds
abbrev pub machine_at : Kind → (Kind → Queue) → QueueView → Machine
machine_at k lanes d = record { left = map pending d.courses; lanes = with_queue k (lane_at d) lanes; agenda = d.agenda; flush_runs = d.flush_runs }

own-lane : (k : Kind) (lanes : Kind → Queue) (d : QueueView) → queue_for k (machine_at k lanes d) ≡ lane_at d
own-lane k lanes d = given-lane k (lane_at d) lanes

abbrev machine : List (List Pending) → (Kind → Queue) → List ℕ → ℕ → Machine
machine left lanes agenda runs = record { left = left; lanes = lanes; agenda = agenda; flush_runs = runs }

same-machine : (a b : List (List Pending)) (c d : Kind → Queue) (e f : List ℕ) (n : ℕ) → a ≡ b → c ≡ d → e ≡ f → machine a c e n ≡ machine b d f n
same-machine a b c d e f n x y z = rw (x, y, z) refl

-- a run, whatever it counts
ran-seen-by : (k : Kind) (lanes : Kind → Queue) (d e : QueueView) (after : List WaitingJob → Queue) (m : Machine) → m.left ≡ map pending d.courses → m.agenda ≡ d.agenda
    → m.lanes ≡ with_queue k (lane_at d) lanes → e.courses ≡ returned brings_in d.courses (finishers rounds_in (advanced_all d.queued))
    → e.agenda ≡ d.agenda ++ numbers (finishers rounds_in (advanced_all d.queued))
    → lane_at e ≡ after (map waiting (others rounds_in (advanced_all d.queued))) → e.flush_runs ≡ m.flush_runs
    → machine_at k lanes e ≡ after_run k after m
ran-seen-by k lanes d e after m left agenda lanes-are cs ag lane runs =
    let ws : (queue_for k m).waiting ≡ map waiting d.queued = ap (λ (x : Kind → Queue). (x k).waiting) lanes-are ∙ ap (λ (l : Queue). l.waiting) (given-lane k (lane_at d) lanes) in
    let gone : leavers (shortened (queue_for k m).waiting) ≡ numbers (finishers rounds_in (advanced_all d.queued)) = ap (λ x. leavers (shortened x)) ws ∙ gone-seen d.queued in
    let stay : stayers (shortened (queue_for k m).waiting) ≡ map waiting (others rounds_in (advanced_all d.queued)) = ap (λ x. stayers (shortened x)) ws ∙ stay-seen d.queued in
    let l : map pending e.courses ≡ stage_done (leavers (shortened (queue_for k m).waiting)) m.left
    = ap (map pending) cs ∙ returned-seen d.courses (finishers rounds_in (advanced_all d.queued)) ∙ ap₂ (λ x y. stage_done x y) (sym gone) (sym left) in
    let n : with_queue k (lane_at e) lanes ≡ with_queue k (after (stayers (shortened (queue_for k m).waiting))) m.lanes
    = ap (λ x. with_queue k x lanes) (lane ∙ ap after (sym stay)) ∙ sym (again k (after (stayers (shortened (queue_for k m).waiting))) (lane_at d) lanes)
    ∙ ap (with_queue k (after (stayers (shortened (queue_for k m).waiting)))) (sym lanes-are) in
    let a : e.agenda ≡ m.agenda ++ leavers (shortened (queue_for k m).waiting) = ag ∙ ap₂ (λ x y. x ++ y) (sym agenda) (sym gone) in
    same-machine _ _ _ _ _ _ e.flush_runs l n a ∙ ap (λ r. record (after_run k after m) { flush_runs = r }) runs

pub run-seen : (at : Cause) (k : Kind) (lanes : Kind → Queue) (d : QueueView) → machine_at k lanes (ran_at at d) ≡ run_within at k (machine_at k lanes d)
run-seen cause.Submit k lanes d =
    let m = machine_at k lanes d in
    let own = own-lane k lanes d in
    let lane : lane_at (ran_at cause.Submit d) ≡ with_run (queue_for k m) (map waiting (others rounds_in (advanced_all d.queued)))
    = rw own (let a = least-seen d.queued in let b = length-map d.queued waiting in rw (a, b) refl) in
    ran-seen-by k lanes d (ran_at cause.Submit d) (with_run (queue_for k m)) m refl refl refl refl refl lane refl
run-seen cause.Flush k lanes d =
    let m = machine_at k lanes d in
    let own = own-lane k lanes d in
    let counted : Machine = record m { flush_runs = (m.flush_runs + 1) % count_end } in
    ran-seen-by k lanes d (ran_at cause.Flush d) (with_waiting (queue_for k m)) counted refl refl refl refl refl (rw own refl) refl

-- a job that joins
joined-seen : (k : Kind) (lanes : Kind → Queue) (n : ℕ) (a : EntryView) (d : QueueView)
    → machine_at k lanes (joined_by n a d)
    ≡ record (machine_at k lanes d) {
      lanes = with_queue k (with_waiting (queue_for k (machine_at k lanes d)) ((queue_for k (machine_at k lanes d)).waiting ++ waits n a.rounds ∷ [])) (with_queue k (lane_at d) lanes);
    }
joined-seen k lanes n a d =
    let m = machine_at k lanes d in
    let own = own-lane k lanes d in
    let lane : lane_at (joined_by n a d) ≡ with_waiting (queue_for k m) ((queue_for k m).waiting ++ waits n a.rounds ∷ [])
    = rw own (ap (λ (r : List WaitingJob). record { waiting = r; rounds = d.rounds; blocks = d.blocks }) (map-append waiting d.queued ((n, a) ∷ []))) in
    same-machine _ _ _ _ _ _ d.flush_runs (map-unchanged pending handed_out pending-out n d.courses)
    (ap (λ x. with_queue k x lanes) lane ∙ sym (again k (with_waiting (queue_for k m) ((queue_for k m).waiting ++ waits n a.rounds ∷ [])) (lane_at d) lanes)) refl

either : (at : Cause) (k : Kind) (lanes : Kind → Queue) (b : Bool) (d : QueueView)
    → machine_at k lanes (cond b (ran_at at d) d) ≡ cond b (run_within at k (machine_at k lanes d)) (machine_at k lanes d)
either at k lanes true d = run-seen at k lanes d
either at k lanes false d = refl

-- a job that joins, and the run of the lane queue if it is full then
pub enters-seen : (at : Cause) (k : Kind) (lanes : Kind → Queue) (n : ℕ) (a : EntryView) (d : QueueView)
    → machine_at k lanes (ran_if_full at (lanes_of k) (joined_by n a d)) ≡ joined at k n a.rounds (machine_at k lanes d)
enters-seen at k lanes n a d =
    let j = joined_by n a d in
    let size : length j.queued ≡ length (queue_for k (machine_at k lanes j)).waiting
    = sym (length-map j.queued waiting) ∙ ap (λ (l : Queue). length l.waiting) (sym (own-lane k lanes j)) in
    either at k lanes (length j.queued == lanes_of k) j
    ∙ ap (λ (x : ℕ). cond (x == lanes_of k) (run_within at k (machine_at k lanes j)) (machine_at k lanes j)) size
    ∙ ap (run_if_full at k) (joined-seen k lanes n a d)

-- the machine of all kinds, by one of them
pub by-queue_view : (k : Kind) (lines after : Kind → PlacedQueue) (d : QueueView) → after k ≡ placed_queue d.queued d.rounds d.blocks → ((j : Kind) → j ≢ k → after j ≡ lines j)
    → machine_by d.courses d.agenda after d.flush_runs ≡ machine_at k (λ j. lane_seen (lines j)) d
by-queue_view k lines after d own others =
    same-machine _ _ _ _ _ _ d.flush_runs refl (fun_ext (λ j. elim (same-kind j k) [
      | inl e ↦ subst (λ i. lane_seen (after i) ≡ with_queue k (lane_at d) (λ j. lane_seen (lines j)) i) (sym e)
          (ap lane_seen own ∙ sym (given-lane k (lane_at d) (λ j. lane_seen (lines j))))
      | inr ne ↦ ap lane_seen (others j ne) ∙ sym (other-lane k j (lane_at d) (λ j. lane_seen (lines j)) ne)
    ])) refl
