-- Slots, of which a list says what stands in each.
use Rattle.std.specs.Prelude.{ℕ, List, slice_index_or, Option, None}

-- what stands in slot i
abbrev pub slot_at : {E : Type 0} → List (Option E) → ℕ → Option E
slot_at es i = slice_index_or es i None
