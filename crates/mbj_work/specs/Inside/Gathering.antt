-- Items that were dealt to lists by turns, in their order again.
use Rattle.std.specs.Prelude.{ℕ, zero, suc, ◌+◌, ◌/◌, ◌%◌, List, [], ◌++◌, option_to_list, slice_get, slice_index_or}

-- this many items from number i on, of n lists
unfoldable pub gathered : {X : Type 0} → ℕ → ℕ → ℕ → List (List X) → List X
gathered zero i n lists = []
gathered (suc k) i n lists = option_to_list (slice_get (slice_index_or lists (i % n) []) (i / n)) ++ gathered k (i + 1) n lists
