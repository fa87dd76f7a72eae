-- What stands in the slots of a hash's lanes.
use Rattle.std.specs.Prelude.{ℕ, List, map, Option, None, slice_index_or}
use Rattle.std.specs.List.{range_with_len}
use Rattle.mbj_hmac.specs.Rounds.{HmacState}

-- n slots as a list, and one of them
abbrev pub slots_of : ℕ → (ℕ → Option HmacState) → List (Option HmacState)
slots_of n slot = map slot (range_with_len 0 n)

abbrev pub slot_in : List (Option HmacState) → ℕ → Option HmacState
slot_in slots i = slice_index_or slots i None
