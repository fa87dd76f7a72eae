-- Over each list of calls the machine is between two calls, with a job for each result owed.
use Rattle.std.proofs.Common.{◌≡◌, ◌≢◌, Bool, false, ℕ, ◌+◌, ◌*◌, ◌%◌, ◌≤◌, ◌==◌, zero, suc, List, [], ◌∷◌, ◌++◌, length, drop, set, ◌<◌, Some, slice_get, refl, ap, sym, ◌∙◌, subst, arith}
use Rattle.std.specs.Prelude.{All, IsSome}
use Rattle.std.specs.Fn.{iterate}
use Rattle.std.proofs.lemmas.Bool.{cond_both}
use Rattle.std.proofs.lemmas.List.{length-drop, length_push, nil_from_length}
use Rattle.std.proofs.lemmas.List.Elements.{All-nil}
use Rattle.mbj_types.specs.declared.job.Job.{Job}
use Rattle.mbj_types.specs.declared.done.Done.{Done}
use Rattle.mbj_types.specs.declared.kind.Kind.{Kind}
use Rattle.mbj_types.specs.Result.{result_of}
use Rattle.mbj_types.specs.Kinds.{lanes_of}
use Rattle.mbj_ring.specs.declared.ring.TheConstants.{CELLS}
use Rattle.mbj_stage.specs.CourseState.{begun}
use Rattle.mbj_stage.specs.Handing.{without_packet}
use Rattle.mbj_manager.specs.Machine.Stages.{Pending, pending}
use Rattle.mbj_manager.specs.Machine.Queues.{Machine, queue_for, idle_queue, count_end}
use Rattle.mbj_manager.specs.declared.lane.Cause.TheVariants as cause
use Rattle.mbj_manager.specs.Machine.Course.{course, flushed, flush_step_at, stages_left}
use Rattle.mbj_manager.specs.State.{ManagerState, counted, entered, finds, after_flush, after_get_completed, given_at, lent, new_manager, with_job, with_open, after_get_next_burst, entered_at}
use Rattle.mbj_manager.specs.Calls as calls
use Rattle.mbj_manager.specs.Calls.{Call, after_calls, called, submitted_at}
use Rattle.mbj_manager.specs.Machine.Counts.{RisesUpTo}
use Rattle.mbj_manager.specs.Kept.{AreKept, IsKept}
use Rattle.mbj_manager.specs.Machine.Between.{HasRounds, IsBetweenCalls}
use Rattle.mbj_manager.specs.Inside.Added.{added}
use Rattle.mbj_manager.specs.Inside.Standing.{IsLane, left_at}
use Rattle.mbj_manager.specs.Inside.Settled.{IsSettled}
use Rattle.mbj_manager.proofs.CallLaws.{opened_next}
use Rattle.mbj_manager.proofs.BetweenCalls.{course-length, flush-length, machines-kept}
use Rattle.mbj_manager.proofs.FlushRuns.{flush-runs}
use Rattle.mbj_manager.proofs.JobRounds.{pending-rounds}
use Rattle.mbj_manager.proofs.JobStages.{twice, two-next, two-stages, two-then}
use Rattle.mbj_manager.proofs.Shrinking.{each-course, each-flush}
use Rattle.mbj_manager.proofs.Lanes.{some-lanes}
use Rattle.mbj_manager.proofs.GivingBack.{back-between}

-- ---- what a flush gives

-- the earliest job is given back if it is finished
pub earliest-given : (ds : List Done) (left : List (List Pending)) (h : ManagerState) → ds ≢ [] → slice_get left 0 ≡ Some []
    → IsSome (given_at ds left h).0
earliest-given [] left h owes done = absurd (owes refl)
earliest-given (d ∷ ds) [] h owes done = cc
earliest-given (d ∷ ds) ([] ∷ left) h owes done = refl
earliest-given (d ∷ ds) ((p ∷ ps) ∷ left) h owes done = cc

-- if no job is left a flush changes nothing
flushed-none : (m : Machine) → m.left ≡ [] → flushed m ≡ m
unfolding flushed
flushed-none m none = ap (λ (left : List (List Pending)). iterate (λ (m : Machine). flush_step_at (slice_get m.left 0) m) (stages_left left) m) none

pub flush-none : (h : ManagerState) → IsSettled h → h.owed ≡ [] → record h { machine = flushed h.machine } ≡ h
flush-none h settled none =
    ap (λ (m : Machine). record h { machine = m }) (flushed-none h.machine (nil_from_length h.machine.left (settled.jobs ∙ ap length none)))

-- giving back runs nothing
given-runs-at : (ds : List Done) (left : List (List Pending)) (h : ManagerState) → (given_at ds left h).1.machine.flush_runs ≡ h.machine.flush_runs
given-runs-at [] left h = refl
given-runs-at (d ∷ ds) [] h = refl
given-runs-at (d ∷ ds) ([] ∷ left) h = refl
given-runs-at (d ∷ ds) ((p ∷ ps) ∷ left) h = refl

-- how often a flush runs lane queues
pub few-runs : (h : ManagerState) → IsSettled h → RisesUpTo (2 * length h.owed) h.machine.flush_runs (after_flush h).1.machine.flush_runs
few-runs h settled =
    let runs = flush-runs h.machine settled.machine in
    let few = runs.few in
    let jobs = settled.jobs in
    let then = record h { machine = flushed h.machine } in
    record {
      by = runs.count;
      few = omega (arith, twice h.machine.left settled.two);
      is = ap (λ n. n % count_end) (given-runs-at h.owed (flushed h.machine).left then) ∙ runs.is;
    }

-- then a flush gives the earliest job back
kept : (h : ManagerState) → IsSettled h → IsKept h
kept h settled = record {
  machine = settled.machine;
  jobs = settled.jobs;
  asked = settled.asked;
  flush_gives = λ owes. earliest-given h.owed (flushed h.machine).left (record h { machine = flushed h.machine }) owes
      ((machines-kept h.machine settled.machine).earliest
      (λ none. owes (nil_from_length h.owed (sym settled.jobs ∙ ap length none))));
  flush_runs = few-runs h settled;
}

-- ---- what each call keeps

-- giving back the earliest of these jobs takes one job and one result
given-at-settled : (ds : List Done) (left : List (List Pending)) (h : ManagerState) → h.owed ≡ ds → h.machine.left ≡ left
    → IsSettled h → IsSettled (given_at ds left h).1
given-at-settled [] left h owes is settled = settled
given-at-settled (d ∷ ds) [] h owes is settled = settled
given-at-settled (d ∷ ds) ((p ∷ ps) ∷ left) h owes is settled = settled
given-at-settled (d ∷ ds) ([] ∷ left) h owes is settled = record {
  machine = back-between left h.machine is settled.machine;
  jobs = (let same = settled.jobs in omega (arith, ap length owes, ap length is));
  asked = (let same = settled.asked in omega (arith, ap length owes, length-drop 1 h.jobs));
  two = λ n. subst (λ (l : List (List Pending)). length (left_at (suc n) l) ≤ 2) is (settled.two (suc n));
}

-- giving back keeps it
pub given-settled : (h : ManagerState) → IsSettled h → IsSettled (after_get_completed h).1
given-settled h settled = given-at-settled h.owed h.machine.left h refl refl settled

two-added : (left : List (List Pending)) (ps : List Pending) → ((n : ℕ) → length (left_at n left) ≤ 2) → length ps ≤ 2
    → (n : ℕ) → length (left_at n (left ++ ps ∷ [])) ≤ 2
two-added [] ps two few zero = few
two-added [] ps two few (suc n) = two n
two-added (x ∷ left) ps two few zero = two zero
two-added (x ∷ left) ps two few (suc n) = two-added left ps (λ i. two (suc i)) few n

-- a submission adds one job and one result
with-job-settled : (j : Job) (js : List Job) (h : ManagerState) → IsSettled h → IsSettled (with_job j js h)
with-job-settled j js h settled =
    let stages = pending (begun j) in
    let entering : ℕ → Machine = λ n. record h.machine { left = h.machine.left ++ stages ∷ []; agenda = n ∷ [] } in
    record {
      machine = subst (λ n. IsBetweenCalls (course cause.Submit (entering n))) settled.jobs
          ((machines-kept h.machine settled.machine).submits stages (pending-rounds j));
      jobs = course-length cause.Submit (entering (length h.owed)) ∙ length_push h.machine.left stages
          ∙ ap (λ n. n + 1) settled.jobs ∙ sym (length_push h.owed (result_of j));
      asked = length_push h.jobs (without_packet j) ∙ ap (λ n. n + 1) settled.asked ∙ sym (length_push h.owed (result_of j));
      two = each-course (λ ps. length ps ≤ 2) two-then two-next cause.Submit (entering (length h.owed)) (two-added h.machine.left stages settled.two (two-stages j));
    }

-- the course of the first job that was open
pub entered-settled : (o : List Job) (h : ManagerState) → IsSettled h → IsSettled (entered_at o h)
entered-settled [] h settled = settled
entered-settled (j ∷ js) h settled = with-job-settled j js h settled

-- a count changes neither
pub counted-settled : (found : Bool) (h g : ManagerState) → IsSettled g → IsSettled (counted found h g)
counted-settled found h g settled = record { machine = settled.machine; jobs = settled.jobs; asked = settled.asked; two = settled.two }

-- a submission of the first open job, if there is one, and what it gives back
submit-settled : (found : Bool) (o : List Job) (h : ManagerState) → h.opened ≡ o → IsSettled h → IsSettled (submitted_at found o h).1
submit-settled found [] h is settled = settled
submit-settled found (j ∷ js) h is settled =
    given-settled (counted found h (entered h))
    (counted-settled found h (entered h) (subst (λ o. IsSettled (entered_at o h)) (sym is) (with-job-settled j js h settled)))

-- open jobs change neither
pub opened-settled : (js : List Job) (h : ManagerState) → IsSettled h → IsSettled (record h { opened = js })
opened-settled js h settled = record { machine = settled.machine; jobs = settled.jobs; asked = settled.asked; two = settled.two }

-- likewise a job that is lent
next-settled : (h : ManagerState) → IsSettled h → IsSettled (opened_next h)
next-settled h settled = cond_both (length h.owed == CELLS) h (with_open h (lent h)) IsSettled (λ full. settled)
    (λ room. opened-settled (lent h ∷ drop 1 h.opened) h settled)

-- a flush takes neither a job nor a result
pub flush-settled : (h : ManagerState) → IsSettled h → IsSettled (record h { machine = flushed h.machine })
flush-settled h settled =
    record {
      machine = (machines-kept h.machine settled.machine).flushes;
      jobs = flush-length h.machine ∙ settled.jobs;
      asked = settled.asked;
      two = each-flush (λ ps. length ps ≤ 2) two-then two-next h.machine settled.two;
    }

-- each call keeps it
pub call-settled : (c : Call) (h : ManagerState) → IsSettled h → IsSettled (called c h).1
call-settled calls.get_next h settled = next-settled h settled
call-settled (calls.get_next_burst n) h settled = opened-settled (after_get_next_burst n h).opened h settled
call-settled (calls.write i j) h settled = opened-settled (set h.opened i j) h settled
call-settled calls.submit h settled = submit-settled false h.opened h refl settled
call-settled (calls.submit_in notes) h settled = submit-settled (finds notes h.opened) h.opened h refl settled
call-settled calls.get_completed h settled = given-settled h settled
call-settled calls.flush h settled = given-settled (record h { machine = flushed h.machine }) (flush-settled h settled)

-- so do calls
calls-settled : (cs : List Call) (h : ManagerState) → IsSettled h → IsSettled (after_calls cs h)
unfolding after_calls
calls-settled [] h settled = settled
calls-settled (c ∷ cs) h settled = calls-settled cs (called c h).1 (call-settled c h settled)

-- ---- from the first call on

-- lanes in which no job waits
idle-kept : (k : Kind) → IsLane k idle_queue
idle-kept k = record {
  few = some-lanes k;
  rests = All-nil (λ w. 1 ≤ w.rest);
  blocks = (let none : 0 ≡ lanes_of k * 0 = omega arith in ap (λ n. n % count_end) none);
}

two-none : (n : ℕ) → length (left_at n []) ≤ 2
two-none zero = omega arith
two-none (suc n) = omega arith

-- a new manager has it
pub new-settled : IsSettled new_manager
new-settled =
    let lanes : (k : Kind) → IsLane k (queue_for k new_manager.machine) = idle-kept in
    record {
      machine = record {
        agenda = refl;
        few = λ k. (lanes k).few;
        rests = λ k. (lanes k).rests;
        placed = λ n k. refl;
        stages = All-nil (All HasRounds);
        blocks = λ k. (lanes k).blocks;
      };
      jobs = refl;
      asked = refl;
      two = two-none;
    }

-- so it holds after each list of calls
pub calls-keep : (cs : List Call) → AreKept cs
calls-keep cs = kept (after_calls cs new_manager) (calls-settled cs new_manager new-settled)
