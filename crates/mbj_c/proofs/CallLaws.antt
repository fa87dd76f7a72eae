-- What is given back over a list of C's calls.
use Rattle.std.proofs.Common.{◌≡◌, ◌+◌, nat_le, ℕ, List, [], ◌∷◌, ◌++◌, drop, length, map, Option, Some, None, option_to_list, Result, Ok, Err, refl, ap, sym, ◌∙◌, append_assoc, append-nil, true, false, Bool}
use Rattle.std.specs.Prelude.{if◌then◌else◌}
use Rattle.std.proofs.lemmas.List.{map-append}
use Rattle.mbj_types.specs.declared.job.Job.{Job}
use Rattle.mbj_types.specs.declared.done.Done.{Done}
use Rattle.mbj_types.specs.Result.{result_of}
use Rattle.mbj_ring.specs.declared.ring.TheConstants.{CELLS}
use Rattle.mbj_keys.specs.Sessions.{Known}
use Rattle.mbj_manager.specs.Machine.Course.{flushed}
use Rattle.mbj_manager.specs.State.{ManagerState}
use Rattle.mbj_manager.proofs.CallLaws.{given-order, submitted-order}
use Rattle.mbj_c.specs.declared.giving.Call.{Call}
use Rattle.mbj_c.specs.declared.giving.Call.TheVariants as call
use Rattle.mbj_c.specs.declared.giving.RawDone.{RawDone}
use Rattle.mbj_c.specs.Given.{Given}
use Rattle.mbj_c.specs.declared.refusal.Refusal.{Refusal}
use Rattle.mbj_c.specs.declared.refusal.Refusal.TheVariants as refusal
use Rattle.mbj_c.specs.Calls.{CallOfC, fills, gives, submits, uses, GivesInOrder, after_calls, called_of, given_back, given_in, given_of, jobs_by, jobs_filled, jobs_in, jobs_submitted}
use Rattle.mbj_c.specs.Filling.{filled_at, filled_with, job_of_raw}
use Rattle.mbj_c.specs.Giving.{called_by, found_by, given_with, job_entered, manager_step, owed_in, refusal_in, step}
use Rattle.mbj_c.specs.KeySets.{using}
use Rattle.mbj_c.specs.Ranges.{given_range}
use Rattle.mbj_c.specs.State.{RangedState, new_ranged}
use Rattle.mbj_c.specs.Submitting.{submitted_by}
use Rattle.mbj_c.proofs.Ranges.{head_or, opened-after, opened-with, ranges-in, ranges-left, results-in, results-left}

-- the state owes what these jobs are owed, and has the ranges of the open ones
record Owes (k : RangedState) (jobs : List Job) : Type 0 where
  results : k.manager.owed ≡ map result_of jobs
  ranges : k.ranges ≡ map given_range jobs
  filled : k.filled ≡ map given_range k.manager.opened

-- of the jobs the first one is given back, or none, and the rest is owed
record Leaves (given : Option Given) (after : RangedState) (jobs : List Job) : Type 0 where
  left : List Job
  order : option_to_list given ++ map given_of left ≡ map given_of jobs
  owes : Owes after left

-- ---- one call

manager-order : (c : Call) (notes : Option (List Known)) (m : ManagerState)
    → option_to_list (manager_step c notes m).0 ++ (manager_step c notes m).1.owed ≡ owed_in c m
manager-order call.Submit notes m = submitted-order (found_by notes m.opened) m
manager-order call.Completed notes m = given-order m
manager-order call.Flush notes m = given-order (record m { machine = flushed m.machine })

first-given : (done : Option Done) (after : List Done) (jobs : List Job) → option_to_list done ++ after ≡ map result_of jobs
    → option_to_list (given_with done (map given_range jobs)) ++ map given_of (drop (length (option_to_list done)) jobs) ≡ map given_of jobs
first-given None after jobs order = refl
first-given (Some d) after [] order = absurd (cc)
first-given (Some d) after (j ∷ jobs) order =
    let with_range : Done → Given = λ e. record { done = e; range = given_range j } in
    ap (λ e. with_range e ∷ map given_of jobs) (ap (head_or d) order)

step-leaves : (c : Call) (k : RangedState) (jobs : List Job) → Owes k jobs
    → Leaves (step c k).0 (step c k).1 (jobs ++ job_entered c k.manager.opened)
step-leaves c k jobs owes =
    let done = (manager_step c k.notes k.manager).0 in
    let all : List Job = jobs ++ job_entered c k.manager.opened in
    let results = results-in c k.manager jobs owes.results in
    let ranges = ranges-in c k.manager.opened k.ranges k.filled jobs owes.ranges owes.filled in
    let order = manager-order c k.notes k.manager in
    record {
      left = drop (length (option_to_list done)) all;
      order = ap (λ rs. option_to_list (given_with done rs) ++ map given_of (drop (length (option_to_list done)) all)) ranges
          ∙ first-given done (manager_step c k.notes k.manager).1.owed all (order ∙ results);
      owes = record {
        results = results-left done (manager_step c k.notes k.manager).1.owed (owed_in c k.manager) all order results;
        ranges = ranges-left done _ all ranges;
        filled = opened-after c k.notes k.manager k.filled owes.filled;
      };
    }

nothing-given : (k : RangedState) (jobs : List Job) → Owes k jobs → Leaves None k (jobs ++ [])
nothing-given k jobs owes = record { left = jobs; order = ap (map given_of) (sym (append-nil jobs)); owes = owes }

called-leaves : (r : Option Refusal) (c : Call) (k : RangedState) (jobs : List Job) → Owes k jobs
    → Leaves (given_in (called_by r c k).0) (called_by r c k).1 (jobs ++ jobs_by r c k)
called-leaves None c k jobs owes = step-leaves c k jobs owes
called-leaves (Some r) c k jobs owes = nothing-given k jobs owes

meant-owes : (i : ℕ) (meant : Option Job) (k : RangedState) (jobs : List Job) → Owes k jobs → Owes (filled_with i meant k).1 jobs
meant-owes i None k jobs owes = owes
meant-owes i (Some j) k jobs owes =
    record { results = owes.results; ranges = owes.ranges; filled = opened-with i j k.manager.opened k.filled owes.filled }

filled-owes : (is_full : Bool) (i : ℕ) (meant : Option Job) (k : RangedState) (jobs : List Job) → Owes k jobs
    → Owes (if is_full then (Err refusal.Full, k) else filled_with i meant k).1 jobs
filled-owes true i meant k jobs owes = owes
filled-owes false i meant k jobs owes = meant-owes i meant k jobs owes

submitted-leaves : (filling : Result Unit Refusal) (k : RangedState) (out : RawDone) (jobs : List Job) → Owes k jobs
    → Leaves (given_in (submitted_by filling k out).0) (submitted_by filling k out).1 (jobs ++ jobs_filled filling k out)
submitted-leaves (Ok u) k out jobs owes = called-leaves (refusal_in call.Submit k out) call.Submit k jobs owes
submitted-leaves (Err r) k out jobs owes = nothing-given k jobs owes

call-leaves : (c : CallOfC) (k : RangedState) (jobs : List Job) → Owes k jobs
    → Leaves (called_of c k).0 (called_of c k).1 (jobs ++ jobs_in c k)
call-leaves (fills i r) k jobs owes =
    nothing-given (filled_at i r k).1 jobs (filled-owes (nat_le CELLS (length k.manager.owed + i)) i (job_of_raw r) k jobs owes)
call-leaves (gives c out) k jobs owes = called-leaves (refusal_in c k out) c k jobs owes
call-leaves (submits r out) k jobs owes =
    submitted-leaves (filled_at 0 r k).0 (filled_at 0 r k).1 out jobs (filled-owes (nat_le CELLS (length k.manager.owed + 0)) 0 (job_of_raw r) k jobs owes)
call-leaves (uses notes) k jobs owes =
    nothing-given (using notes k) jobs (record { results = owes.results; ranges = owes.ranges; filled = owes.filled })

-- ---- all calls

record LeavesAll (cs : List CallOfC) (k : RangedState) (jobs : List Job) : Type 0 where
  left : List Job
  order : given_back cs k ++ map given_of left ≡ map given_of (jobs ++ jobs_submitted cs k)
  owes : Owes (after_calls cs k) left

all-leave : (cs : List CallOfC) (k : RangedState) (jobs : List Job) → Owes k jobs → LeavesAll cs k jobs
unfolding given_back jobs_submitted after_calls
all-leave [] k jobs owes = record { left = jobs; order = ap (map given_of) (sym (append-nil jobs)); owes = owes }
all-leave (c ∷ cs) k jobs owes =
    let first = call-leaves c k jobs owes in
    let rest = all-leave cs (called_of c k).1 first.left first.owes in
    let back = option_to_list (called_of c k).0 in
    let later = jobs_submitted cs (called_of c k).1 in
    record {
      left = rest.left;
      order = append_assoc back (given_back cs (called_of c k).1) (map given_of rest.left)
          ∙ ap (λ gs. back ++ gs) (rest.order ∙ map-append given_of first.left later)
          ∙ sym (append_assoc back (map given_of first.left) (map given_of later))
          ∙ ap (λ gs. gs ++ map given_of later) first.order
          ∙ sym (map-append given_of (jobs ++ jobs_in c k) later)
          ∙ ap (map given_of) (append_assoc jobs (jobs_in c k) later);
      owes = rest.owes;
    }

pub all-in-order : (cs : List CallOfC) → GivesInOrder cs
all-in-order cs =
    let all = all-leave cs new_ranged [] (record { results = refl; ranges = refl; filled = refl }) in
    record { left = all.left; order = all.order; results = all.owes.results; ranges = all.owes.ranges }
