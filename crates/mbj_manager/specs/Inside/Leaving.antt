-- Entries that go out of courses, and those whose rounds are done, which go back.
use Rattle.std.specs.Prelude.{◌≡◌, ◌≢◌, ℕ, ◌==◌, zero, suc, List, [], ◌∷◌, if◌then◌else◌}
use Rattle.mbj_types.specs.Rounds.{rounds_of}
use Rattle.mbj_types.specs.declared.kind.Kind.{Kind}
use Rattle.mbj_stage.specs.CourseState.{CourseState, owed, sized}
use Rattle.mbj_stage.specs.Handing.{End, IsOut, handed_out, owed_with, taken_back, without_packet}
use Rattle.mbj_manager.specs.Machine.Queues.{changed}

-- there is an item at n, and it has P
abbrev pub At : {A : Type 0} → (A → Type 0) → ℕ → List A → Type 0
At P n [] = ⊥
At P zero (x ∷ xs) = P x
At P (suc n) (x ∷ xs) = At P n xs

-- those with no round left, in order, and the others
abbrev pub finishers : {E : Type 0} → (E → ℕ) → List (ℕ × E) → List (ℕ × E)
finishers rest [] = []
finishers rest (p ∷ ps) = if rest p.1 == 0 then p ∷ finishers rest ps else finishers rest ps

abbrev pub others : {E : Type 0} → (E → ℕ) → List (ℕ × E) → List (ℕ × E)
others rest [] = []
others rest (p ∷ ps) = if rest p.1 == 0 then others rest ps else p ∷ others rest ps

abbrev pub numbers : {E : Type 0} → List (ℕ × E) → List ℕ
numbers [] = []
numbers (p ∷ ps) = p.0 ∷ numbers ps

-- the courses once these entries are taken back
abbrev pub returned : {E : Type 0} → (E → End) → List CourseState → List (ℕ × E) → List CourseState
returned brings cs [] = cs
returned brings cs (p ∷ ps) = returned brings (changed (taken_back (brings p.1)) p.0 cs) ps

abbrev pub IsAbsent : {E : Type 0} → ℕ → List (ℕ × E) → Type 0
IsAbsent n [] = Unit {0}
IsAbsent n (p ∷ ps) = (p.0 ≢ n) × IsAbsent n ps

-- an entry with this rest and end goes out of the course
pub record Gives (k : Kind) (rest : ℕ) (e : End) (c : CourseState) : Type 0 where
  pub rest_is : rest ≡ rounds_of k (sized c.lengths c.job)
  pub owed_is : owed_with e (handed_out c) ≡ owed c
  pub asked_is : without_packet (taken_back e (handed_out c)).job ≡ without_packet c.job
  pub is_out : IsOut k e (handed_out c)
