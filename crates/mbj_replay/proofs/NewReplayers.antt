-- The state that a replay begins with.
use Rattle.std.proofs.Common.{◌≡◌, ◌∙◌, ◌+◌, ◌*◌, ◌%◌, ◌<◌, ◌++◌, [], ◌∷◌, ap, sym, refl, ℕ, zero, suc, List, Option, Some, map, replicate, length, option_map, option_to_list, arith}
use Rattle.std.specs.Prelude.{slice_get}
use Rattle.std.specs.List.{flat_map, range_with_len}
use Rattle.std.proofs.lemmas.List.{length-map, length-replicate}
use Rattle.std.proofs.lemmas.List.FromFn.{length-range_with_len}
use Rattle.std.proofs.lemmas.Option.{none-some, same_Some, slice_get-map}
use Rattle.std.proofs.Math.Nat.{mod-eq_of_lt}
use Rattle.mbj_types.specs.declared.job.Job.{Job}
use Rattle.mbj_types.specs.declared.done.Done.{Done}
use Rattle.mbj_core.specs.Cells.{Cell, free, ready}
use Rattle.mbj_core.specs.Parties.{FrontState, new_front}
use Rattle.mbj_core.specs.CoreStates.{CoreState, new_core}
use Rattle.mbj_core.specs.Stands.{StandsFor}
use Rattle.mbj_core.specs.declared.cells.TheConstants.{SUBMITTER_CELLS}
use Rattle.mbj_manager.specs.State.{ManagerState, new_manager}
use Rattle.mbj_replay.specs.Replay.{Replaying, new_replay}
use Rattle.mbj_replay.specs.Inside.State.{IsPlaying, with_copy}
use Rattle.mbj_replay.specs.declared.replayer.Posted.{Posted}
use Rattle.mbj_replay.specs.declared.replayer.Replayer.{Replayer}
use Rattle.mbj_replay.specs.declared.replayer.Unposted.{Unposted}
use Rattle.mbj_replay.specs.declared.worker.Worker.{Worker}

range-more-from : (a n : ℕ) → range_with_len a (n + 1) ≡ range_with_len a n ++ (a + n) ∷ []
range-more-from a zero = let same : a ≡ a + 0 = omega arith in ap (λ (k : ℕ). k ∷ []) same
range-more-from a (suc n) =
    let one : suc n + 1 ≡ suc (n + 1) = omega arith in
    let last : (a + 1) + n ≡ a + suc n = omega arith in
    ap (range_with_len a) one ∙ ap (λ (l : List ℕ). a ∷ l) (range-more-from (a + 1) n ∙ ap (λ (k : ℕ). range_with_len (a + 1) n ++ k ∷ []) last)

-- one number more
pub range-more : (n : ℕ) → range_with_len 0 (n + 1) ≡ range_with_len 0 n ++ n ∷ []
range-more n = let last : 0 + n ≡ n = omega arith in range-more-from 0 n ∙ ap (λ (k : ℕ). range_with_len 0 n ++ k ∷ []) last

in-range : (a k s n : ℕ) → slice_get (range_with_len a k) s ≡ Some n → (n ≡ a + s) × (s < k)
in-range a zero s n at = absurd (none-some n at)
in-range a (suc k) zero n at = let same : a ≡ n = same_Some a n at in (omega (arith, same), omega arith)
in-range a (suc k) (suc s) n at = let later = in-range (a + 1) k s n at in (omega (arith, later.0), omega (arith, later.1))

pub alike : {A : Type 0} (k : ℕ) (y z : A) (i : ℕ) → slice_get (replicate k y) i ≡ Some z → z ≡ y
alike zero y z i at = absurd (none-some z at)
alike (suc k) y z zero at = sym (same_Some y z at)
alike (suc k) y z (suc i) at = alike k y z i at

-- each item is as the list says of all
all-alike : {A B : Type 0} (f : A → B) (xs : List A) (k : ℕ) (y : B) (i : ℕ) (x : A) → map f xs ≡ replicate k y → slice_get xs i ≡ Some x → f x ≡ y
all-alike f xs k y i x are at = alike k y (f x) i (ap (λ l. slice_get l i) (sym are) ∙ slice_get-map f xs i ∙ ap (option_map f) at)

-- the jobs that are not posted
abbrev pub jobs_left : List (Option Unposted) → List Job
jobs_left unposted = flat_map (λ x. option_to_list (option_map (λ u. u.job) x)) unposted

left-of : (jobs : List Job) → jobs_left (map with_copy jobs) ≡ jobs
left-of [] = refl
left-of (job ∷ jobs) = ap (λ (l : List Job). job ∷ l) (left-of jobs)

-- if none is posted, all are left
pub all-left : (jobs : List Job) (unposted : List (Option Unposted)) → unposted ≡ map with_copy jobs → jobs_left unposted ≡ jobs
all-left jobs unposted left = ap jobs_left left ∙ left-of jobs

pub begun : (jobs : List Job) (r : Replayer) (submitters workers : ℕ) → r.core ≡ new_core submitters workers → StandsFor r.core new_front
    → map (λ x. x.manager) r.workers.items ≡ replicate workers new_manager → map (λ x. x.hand.items) r.workers.items ≡ replicate workers []
    → r.unposted.items ≡ map with_copy jobs → r.nexts.items ≡ range_with_len 0 submitters
    → map (λ x. x.number) r.posted.items ≡ replicate (SUBMITTER_CELLS * submitters) 0
    → IsPlaying jobs r
begun jobs r submitters workers is_core front managers hands left nexts numbers =
    let f : FrontState Job Done = new_front in
    let count : r.core.submitters ≡ submitters = ap (λ (c : CoreState). c.submitters) is_core in (
      f,
      record {
        front = front;
        worker_count = sym (length-map r.workers.items (λ (x : Worker). x.manager)) ∙ ap length managers ∙ length-replicate workers new_manager
            ∙ sym (ap (λ (c : CoreState). c.workers) is_core);
        workers = λ w x at. record {
          cells = all-alike (λ (x : Worker). x.hand.items) r.workers.items workers [] w x hands at;
          owed = ap (λ (m : ManagerState). m.owed) (all-alike (λ (x : Worker). x.manager) r.workers.items workers new_manager w x managers at);
        };
        stock = record {
          next_count = ap length nexts ∙ length-range_with_len 0 submitters ∙ sym count;
          each_next = λ s n at. let own = in-range 0 submitters s n (ap (λ l. slice_get l s) (sym nexts) ∙ at) in
              (ap (λ (k : ℕ). n % k) count ∙ mod-eq_of_lt {n = n} {m = submitters} (omega (arith, own.0, own.1)) ∙ own.0 ∙ omega arith, omega (arith, own.0, own.1, count));
          job_count = ap length left ∙ length-map jobs with_copy;
          each_left = λ s n m at above of. ap (λ l. slice_get l m) left ∙ slice_get-map with_copy jobs m;
          cell_count = sym (length-map r.posted.items (λ (x : Posted). x.number)) ∙ ap length numbers ∙ length-replicate (SUBMITTER_CELLS * submitters) 0
              ∙ ap (λ (n : ℕ). SUBMITTER_CELLS * n) (sym count);
          each_ready = λ c job x at is. let bad : ◌≡◌ {A = Cell Job Done} free (ready job) = is in cc;
        };
      },
    )

replaying : CoreState → List ManagerState → List ℕ → List ℕ → Replaying
replaying core managers nexts numbers = record { core = core; managers = managers; nexts = nexts; numbers = numbers }

pub begun-state : (core : CoreState) (managers : List ManagerState) (nexts numbers : List ℕ) (submitters workers : ℕ) → core ≡ new_core submitters workers
    → managers ≡ replicate workers new_manager → nexts ≡ range_with_len 0 submitters → numbers ≡ replicate (SUBMITTER_CELLS * submitters) 0
    → record { core = core; managers = managers; nexts = nexts; numbers = numbers } ≡ new_replay submitters workers
unfolding replaying
begun-state core managers nexts numbers submitters workers is_core are_managers are_nexts are_numbers =
    ap (λ (c : CoreState). replaying c managers nexts numbers) is_core
    ∙ ap (λ (ms : List ManagerState). replaying (new_core submitters workers) ms nexts numbers) are_managers
    ∙ ap (λ (ns : List ℕ). replaying (new_core submitters workers) (replicate workers new_manager) ns numbers) are_nexts
    ∙ ap (replaying (new_core submitters workers) (replicate workers new_manager) (range_with_len 0 submitters)) are_numbers
