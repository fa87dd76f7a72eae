-- The courses in a ring, when the one at a place changes.
use Rattle.std.proofs.Common.{◌≡◌, ℕ, ◌<◌, zero, suc, List, [], ◌∷◌, length, map, set, length-set, Some, None, slice_get, refl, ap, sym, ◌∙◌, subst, arith, drop}
use Rattle.std.specs.Prelude.{All}
use Rattle.std.proofs.lemmas.List.{length-map, map-set}
use Rattle.std.proofs.lemmas.List.Elements.{All-head, All-set, All-tail}
use Rattle.mbj_stage.specs.CourseState.{CourseState, stage_of}
use Rattle.mbj_ring.specs.declared.ring.TheConstants.{CELLS}
use Rattle.mbj_ring.specs.Ring.{RingState, IsLive, with_value_at, ring}
use Rattle.mbj_manager.specs.Machine.Queues.{changed}
use Rattle.mbj_manager.specs.State.{with_open_at}
use Rattle.mbj_manager.specs.Inside.Held.{IsHeld, held}
use Rattle.mbj_types.specs.declared.job.Job.{Job}
use Rattle.mbj_manager.specs.declared.lane_queues.LaneQueues.{LaneQueues}
use Rattle.mbj_manager.specs.Cells.{Cell, IsGoing, course_in, IsOpen, job_in}
use Rattle.mbj_manager.specs.Cells as cell
use Rattle.mbj_manager.specs.Inside.Courses.{AreCourses, IsSameRing, KeepsSteps, courses, first_stage, ring_number}
use Rattle.mbj_manager.specs.Inside.Leaving.{At}

pub at-below : {A : Type 0} (P : A → Type 0) (n : ℕ) (xs : List A) → At P n xs → n < length xs
at-below P n [] a = absurd a
at-below P zero (x ∷ xs) a = omega arith
at-below P (suc n) (x ∷ xs) a = let h = at-below P n xs a in omega arith

-- the item that is there
pub at-cell : (P : CourseState → Type 0) (n : ℕ) (vs : List Cell) (v : Cell) → slice_get vs n ≡ Some v → At P n (map course_in vs) → P (course_in v)
at-cell P n [] v e a = absurd a
at-cell P zero (x ∷ vs) v e a = let is : x ≡ v = cc in subst (λ c. P (course_in c)) is a
at-cell P (suc n) (x ∷ vs) v e a = at-cell P n vs v e a

pub cell-at : (P : CourseState → Type 0) (n : ℕ) (vs : List Cell) (v : Cell) → slice_get vs n ≡ Some v → P (course_in v) → At P n (map course_in vs)
cell-at P n [] v e p = cc
cell-at P zero (x ∷ vs) v e p = let is : v ≡ x = cc in subst (λ c. P (course_in c)) is p
cell-at P (suc n) (x ∷ vs) v e p = cell-at P n vs v e p

-- what each has, the one there has
pub each-at : {A : Type 0} (P : A → Type 0) (n : ℕ) (xs : List A) (x : A) → slice_get xs n ≡ Some x → All P xs → P x
each-at P n [] x e a = cc
each-at P zero (y ∷ xs) x e a = let is : y ≡ x = cc in subst P is (All-head P y xs a)
each-at P (suc n) (y ∷ xs) x e a = each-at P n xs x e (All-tail P y xs a)

-- what f makes of the course there
pub courses-set : (f : CourseState → CourseState) (n : ℕ) (vs : List Cell) (v w : Cell) → slice_get vs n ≡ Some v → course_in w ≡ f (course_in v)
    → map course_in (set vs n w) ≡ changed f n (map course_in vs)
courses-set f n [] v w e is = cc
courses-set f zero (x ∷ vs) v w e is =
    let same : x ≡ v = cc in
    ap (λ (c : CourseState). c ∷ map course_in vs) (is ∙ ap (λ c. f (course_in c)) (sym same))
courses-set f (suc n) (x ∷ vs) v w e is = ap (λ (cs : List CourseState). course_in x ∷ cs) (courses-set f n vs v w e is)

-- a place where a course is
pub live : (P : CourseState → Type 0) (r : RingState Cell) (p : ℕ) → p < CELLS → At P (ring_number r p) (courses r) → IsLive r p
live P r p lt a = (lt, let below = at-below P (ring_number r p) (courses r) a in omega (arith, length-map r.values course_in))

-- the ring with a course in place of another
pub same-ring : (r : RingState Cell) (n : ℕ) (w : Cell) → AreCourses r → IsGoing w → KeepsSteps w → IsSameRing (with_value_at r n w) r
same-ring r n w is going steps = record {
  first = refl;
  opened = refl;
  courses = record {
    going = All-set IsGoing r.values n w going is.going;
    steps = All-set KeepsSteps r.values n w steps is.steps;
    few = (let few = is.few in omega (arith, length-set r.values n w));
    first = is.first;
  };
}

-- ---- the first course

pub first-set : (vs : List Cell) (v : Cell) → slice_get vs 0 ≡ Some v → set vs 0 v ≡ vs
first-set [] v e = refl
first-set (x ∷ vs) v e = let is : v ≡ x = cc in ap (λ y. y ∷ vs) is

pub first-is : (vs : List Cell) (v : Cell) → slice_get vs 0 ≡ Some v → first_stage (map course_in vs) ≡ Some (stage_of (course_in v))
first-is [] v e = cc
first-is (x ∷ vs) v e = let is : x ≡ v = cc in ap (λ y. Some (stage_of (course_in y))) is

pub first-none : (vs : List Cell) → slice_get vs 0 ≡ None → first_stage (map course_in vs) ≡ None
first-none [] e = refl
first-none (x ∷ vs) e = cc

-- ---- the open cells

all-at : {A : Type 0} (P : A → Type 0) (n : ℕ) (xs : List A) (x : A) → slice_get xs n ≡ Some x → All P xs → P x
all-at P n [] x e a = cc
all-at P zero (y ∷ xs) x e a = let is : y ≡ x = cc in subst P is (All-head P y xs a)
all-at P (suc n) (y ∷ xs) x e a = all-at P n xs x e (All-tail P y xs a)

pub open-at : (n : ℕ) (vs : List Cell) (v : Cell) → slice_get vs n ≡ Some v → All IsOpen vs → IsOpen v
open-at n vs v e a = all-at IsOpen n vs v e a

-- the job in an open cell
pub job-at : (n : ℕ) (vs : List Cell) (v : Cell) (j : Job) → slice_get vs n ≡ Some v → cell.Open j ≡ v → slice_get (map job_in vs) n ≡ Some j
job-at n [] v j e is = cc
job-at zero (x ∷ vs) v j e is = let same : x ≡ v = cc in ap (λ (c : Cell). Some (job_in c)) (same ∙ sym is)
job-at (suc n) (x ∷ vs) v j e is = job-at n vs v j e is

-- the first open cell and the others
pub first-open : (vs : List Cell) (v : Cell) → slice_get vs 0 ≡ Some v → vs ≡ v ∷ drop 1 vs
first-open [] v e = cc
first-open (x ∷ vs) v e = let is : x ≡ v = cc in ap (λ y. y ∷ vs) is

pub none-open : (vs : List Cell) → slice_get vs 0 ≡ None → ¬ (0 < length (map job_in vs))
none-open [] e = λ some. absurd (omega (arith, some))
none-open (x ∷ vs) e = cc

-- an open job is written over
pub written-open : (r : RingState Cell) (n : ℕ) (j : Job) (ag : List ℕ) (ls : LaneQueues)
    → held (ring r.values (set r.opened n (cell.Open j)) r.first) ag ls ≡ with_open_at (held r ag ls) n j
written-open r n j ag ls = ap (λ (js : List Job). record (held r ag ls) { opened = js }) (map-set job_in r.opened n (cell.Open j))

-- a ring with other open cells
pub open-held : (r : RingState Cell) (vs : List Cell) (ag : List ℕ) (ls : LaneQueues) (capacity : ℕ) → All IsOpen vs → IsHeld r ag ls capacity
    → IsHeld (ring r.values vs r.first) ag ls capacity
open-held r vs ag ls capacity are y = record {
  ring = record { going = y.ring.going; steps = y.ring.steps; few = y.ring.few; first = y.ring.first };
  is_open = are;
  within = y.within;
  tied = y.tied;
  fits = y.fits;
  room = y.room;
}
