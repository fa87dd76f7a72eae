-- What lines spell, one after the other, and the line at which reading them stops.
use Rattle.std.specs.Prelude.{◌≡◌, ◌++◌, ℕ, List, [], ◌∷◌}
use Rattle.mbj_text.specs.Cut.{Numbered}

-- there are as many values as lines, and each line spells its value behind the values before it: first these, and then
-- those of the lines before
abbrev pub SpellBehind : {X : Type 0} → (List X → List ℕ → X → Type 0) → List X → List Numbered → List X → Type 0
SpellBehind Spells before [] [] = Unit {0}
SpellBehind Spells before [] (value ∷ values) = ⊥
SpellBehind Spells before (line ∷ lines) [] = ⊥
SpellBehind Spells before (line ∷ lines) (value ∷ values) =
    Spells before line.1 value × SpellBehind Spells (before ++ value ∷ []) lines values

-- the same from the first line on
abbrev pub SpellEach : {X : Type 0} → (List X → List ℕ → X → Type 0) → List Numbered → List X → Type 0
SpellEach Spells lines values = SpellBehind Spells [] lines values

-- the lines before the one with this number spell values, and of these values and of its own text holds why reading stops
pub record StopsAt {X : Type 0} (Spells : List X → List ℕ → X → Type 0) (Why : List X → List ℕ → Type 0) (lines : List Numbered) (line : ℕ) : Type 0 where
  pub before : List Numbered
  pub text : List ℕ
  pub after : List Numbered
  pub values : List X
  pub cut_so : lines ≡ before ++ (line, text) ∷ after
  pub good : SpellEach Spells before values
  pub why : Why values text
