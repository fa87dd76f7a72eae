-- Who waits in a lane queue has an entry there, which is out of the job's own course and leads to what the job is owed.
use Rattle.std.proofs.Common.{◌≡◌, ℕ, ◌+◌, zero, suc, List, [], ◌∷◌, ◌++◌, map, Option, Some, slice_get, refl, ap, ap₂, sym, ◌∙◌, subst, arith, append_assoc}
use Rattle.std.proofs.lemmas.Option.{slice_get-map}
use Rattle.std.specs.Option.{option_map}
use Rattle.std.specs.Prelude.{All}
use Rattle.mbj_types.specs.declared.job.Job.{Job}
use Rattle.mbj_types.specs.declared.kind.Kind.{Kind}
use Rattle.mbj_stage.specs.CourseState.{CourseState, owed}
use Rattle.mbj_stage.specs.Handing.{End, IsOut, taken_back}
use Rattle.mbj_manager.specs.Machine.Stages.{pending}
use Rattle.mbj_manager.specs.Machine.Queues.{rest_of}
use Rattle.mbj_manager.specs.State.{ManagerState}
use Rattle.mbj_manager.specs.Entries.{AreEntriesOf, HasJobSteps, IsEntryOf}
use Rattle.mbj_manager.specs.Inside.Courses.{asked}
use Rattle.mbj_manager.specs.Inside.Leaving.{At}
use Rattle.mbj_manager.specs.Inside.QueueView.{Listed}
use Rattle.mbj_manager.specs.Inside.PlacedQueue.{PlacedQueue, PlacedEntry, numbered, pair_rest, rounds_in}
use Rattle.mbj_manager.specs.Inside.Held.{find_in, found, machine_by, restored, restored_from, waiting}
use Rattle.mbj_manager.proofs.Restoring.{out-restored}
use Rattle.mbj_manager.proofs.RingCourses.{each-at}
use Rattle.mbj_manager.proofs.Tying.{Middle, found-here, middle}

-- ---- the course of a job

record There {A : Type 0} (P : A → Type 0) (n : ℕ) (xs : List A) : Type 0 where
  item : A
  is : slice_get xs n ≡ Some item
  has : P item

there : {A : Type 0} (P : A → Type 0) (n : ℕ) (xs : List A) → At P n xs → There P n xs
there P n [] a = absurd a
there P zero (x ∷ xs) a = record { item = x; is = refl; has = a }
there P (suc n) (x ∷ xs) a = let t = there P n xs a in record { item = t.item; is = t.is; has = t.has }

-- the course there, with its entry taken back
restored-there : (first p n : ℕ) (find : Kind → ℕ → Option End) (cs : List CourseState) (c : CourseState) → p ≡ first + n → slice_get cs n ≡ Some c
    → slice_get (restored_from first find cs) n ≡ Some (restored p find c)
restored-there first p n find [] c e is = cc
restored-there first p zero find (x ∷ cs) c e is =
    let here : first ≡ p = omega arith in
    let same : x ≡ c = cc in
    ap₂ (λ (i : ℕ) (y : CourseState). Some (restored i find y)) here same
restored-there first p (suc n) find (x ∷ cs) c e is = restored-there (suc first) p n find cs c (omega arith) is

-- ---- the jobs of a lane queue

module _ (k : Kind) (cs : List CourseState) (agenda : List ℕ) (lines : Kind → PlacedQueue) (runs : ℕ) (opened : List Job)
    (steps : All HasJobSteps cs) where
  abbrev state : ManagerState
  state = record {
    owed = map owed (restored_from 0 (find_in lines) cs);
    jobs = map asked (restored_from 0 (find_in lines) cs);
    opened = opened;
    machine = machine_by cs agenda lines runs;
    expansions = 0;
  }

  -- what f tells of the course w.0
  told-of : {X : Type 0} (f : CourseState → X) (w : PlacedEntry) (c : CourseState) → slice_get cs w.0 ≡ Some c → IsOut k w.1.brings c
      → found w.0 (lines k).queued ≡ Some w.1.brings
      → slice_get (map f (restored_from 0 (find_in lines) cs)) w.0 ≡ Some (f (taken_back w.1.brings c))
  told-of f w c is out here =
      slice_get-map f (restored_from 0 (find_in lines) cs) w.0
      ∙ ap (option_map f) (restored-there 0 w.0 w.0 (find_in lines) cs c (omega arith) is)
      ∙ ap (λ (x : CourseState). Some (f x)) (out-restored w.0 (find_in lines) k w.1.brings c out here)

  entry-of : (front : List PlacedEntry) (w : PlacedEntry) (ws : List PlacedEntry) → (lines k).queued ≡ front ++ w ∷ ws → Middle k cs front w ws
      → IsEntryOf k state w.1.brings (waiting w)
  entry-of front w ws l o =
      let t = there (IsOut k w.1.brings) w.0 cs o.out in
      let here : found w.0 (lines k).queued ≡ Some w.1.brings = ap (found w.0) l ∙ found-here front w ws o.absent in
      record {
        course = t.item;
        out = t.has;
        job = told-of asked w t.item t.is t.has here;
        steps = each-at HasJobSteps w.0 cs t.item t.is steps;
        left = slice_get-map pending cs w.0 ∙ ap (option_map pending) t.is;
        owed = told-of owed w t.item t.is t.has here;
      }

  entries-behind : (front ws : List PlacedEntry) → (lines k).queued ≡ front ++ ws → Listed k cs (lines k).queued
      → AreEntriesOf k state (map (λ w. w.1.brings) ws) (map waiting ws)
  entries-behind front [] l listed = tt
  entries-behind front (w ∷ ws) l listed = (
    entry-of front w ws l (middle k cs front w ws (subst (Listed k cs) l listed)),
    entries-behind (front ++ w ∷ []) ws (l ∙ sym (append_assoc front (w ∷ []) ws)) listed,
  )

  pub all-entries : Listed k cs (lines k).queued → AreEntriesOf k state (map (λ w. w.1.brings) (lines k).queued) (map waiting (lines k).queued)
  all-entries listed = entries-behind [] (lines k).queued refl listed

-- ---- the entries of a list

-- the lane queue's rests and ends, whatever the numbers of its jobs
pub numbered-rests : (f : ℕ → ℕ) (ws : List PlacedEntry) → map rest_of (map waiting (numbered f ws)) ≡ map (pair_rest rounds_in) ws
numbered-rests f [] = refl
numbered-rests f (w ∷ ws) = ap (λ (ns : List ℕ). w.1.rounds ∷ ns) (numbered-rests f ws)

pub numbered-ends : (f : ℕ → ℕ) (ws : List PlacedEntry) → map (λ (w : PlacedEntry). w.1.brings) (numbered f ws) ≡ map (λ (w : PlacedEntry). w.1.brings) ws
numbered-ends f [] = refl
numbered-ends f (w ∷ ws) = ap (λ (ends : List End). w.1.brings ∷ ends) (numbered-ends f ws)
