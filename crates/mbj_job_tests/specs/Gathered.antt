-- Entries that stand side by side, each with the number of its slot.
use Rattle.std.specs.Prelude.{◌≡◌, ℕ, ◌<◌, ◌==◌, List, [], ◌∷◌, length, Option, Some, None, if◌then◌else◌}
use Rattle.mbj_lane.specs.Slots.{IsIn, AreApart}

-- the entry of a slot
abbrev pub at_slot : {E : Type 0} → List ℕ → List E → ℕ → Option E
at_slot [] es i = None
at_slot (p ∷ ps) [] i = None
at_slot (p ∷ ps) (e ∷ es) i = if i == p then Some e else at_slot ps es i

-- each entry has a slot of its own
pub record AreGathered {E : Type 0} (lanes : ℕ) (places : List ℕ) (entries : List E) : Type 0 where
  pub same : length places ≡ length entries
  pub apart : AreApart places
  pub below : (i : ℕ) → IsIn i places → i < lanes
