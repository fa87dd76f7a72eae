-- The count of expanded keys, beside all else of a manager's state.
use Rattle.std.proofs.Common.{◌≡◌, ◌<◌, ℕ, Bool, List, [], ◌∷◌, Option, IfSome, length, slice_get, refl, ap, arith}
use Rattle.std.specs.Prelude.{if◌then◌else◌}
use Rattle.mbj_types.specs.declared.job.Job.{Job}
use Rattle.mbj_types.specs.declared.done.Done.{Done}
use Rattle.mbj_types.specs.declared.kind.Kind.{Kind}
use Rattle.mbj_stage.specs.Keys.{counts_expansion}
use Rattle.mbj_stage.specs.Handing.{End}
use Rattle.mbj_manager.specs.Machine.Stages.{Pending}
use Rattle.mbj_manager.specs.Machine.Queues.{WaitingJob}
use Rattle.mbj_manager.specs.Entries.{AreEntriesOf}
use Rattle.mbj_manager.specs.State.{ManagerState, IsEarliestFinished, after_get_completed, entered_at, expanded_for, given_at}

-- the state with another count
abbrev pub with_count : ℕ → ManagerState → ManagerState
with_count n h = record h { expansions = n }

given_at-count : (ds : List Done) (left : List (List Pending)) (h : ManagerState) (n : ℕ)
    → ((given_at ds left h).0, with_count n (given_at ds left h).1) ≡ given_at ds left (with_count n h)
given_at-count [] left h n = refl
given_at-count (d ∷ ds) [] h n = refl
given_at-count (d ∷ ds) ([] ∷ left) h n = refl
given_at-count (d ∷ ds) ((p ∷ ps) ∷ left) h n = refl

-- what is given back doesn't depend on it
pub given-first : (h : ManagerState) (n : ℕ) → (after_get_completed h).0 ≡ (after_get_completed (with_count n h)).0
given-first h n = ap (λ (p : Option Done × ManagerState). p.0) (given_at-count h.owed h.machine.left h n)

-- and it stays
pub given-then : (h : ManagerState) (n : ℕ) → with_count n (after_get_completed h).1 ≡ (after_get_completed (with_count n h)).1
given-then h n = ap (λ (p : Option Done × ManagerState). p.1) (given_at-count h.owed h.machine.left h n)

pub entered-count : (o : List Job) (h : ManagerState) (m n : ℕ) → with_count n (entered_at o h) ≡ with_count n (entered_at o (with_count m h))
entered-count [] h m n = refl
entered-count (j ∷ js) h m n = refl

-- a key counts once if it is expanded
pub count-one : (found b : Bool) (o : List Job) → 0 < length o → IfSome (slice_get o 0) (λ j. b ≡ counts_expansion found j)
    → (if b then 1 else 0) ≡ expanded_for found o
count-one found b [] some is = absurd (omega arith)
count-one found b (j ∷ js) some is = ap (λ (x : Bool). if x then 1 else 0) is

pub earliest-count : (h : ManagerState) (n : ℕ) → IsEarliestFinished h → IsEarliestFinished (with_count n h)
earliest-count h n is = record { some = is.some; done = is.done }

pub earliest-back : (h : ManagerState) (n : ℕ) → IsEarliestFinished (with_count n h) → IsEarliestFinished h
earliest-back h n is = record { some = is.some; done = is.done }

-- the entries in the lanes are those of the same jobs
pub entries-count : (k : Kind) (h : ManagerState) (n : ℕ) (es : List End) (ws : List WaitingJob) → AreEntriesOf k h es ws → AreEntriesOf k (with_count n h) es ws
entries-count k h n [] [] are = tt
entries-count k h n (e ∷ es) (w ∷ ws) are =
    let of = are.0 in
    (record { course = of.course; out = of.out; job = of.job; steps = of.steps; left = of.left; owed = of.owed }, entries-count k h n es ws are.1)
entries-count k h n [] (w ∷ ws) are = are
entries-count k h n (e ∷ es) [] are = are

given_at-expansions : (ds : List Done) (left : List (List Pending)) (h : ManagerState) → (given_at ds left h).1.expansions ≡ h.expansions
given_at-expansions [] left h = refl
given_at-expansions (d ∷ ds) [] h = refl
given_at-expansions (d ∷ ds) ([] ∷ left) h = refl
given_at-expansions (d ∷ ds) ((p ∷ ps) ∷ left) h = refl

-- what is given back leaves it
pub given-expansions : (h : ManagerState) → (after_get_completed h).1.expansions ≡ h.expansions
given-expansions h = given_at-expansions h.owed h.machine.left h
