-- How jobs are dealt to submitters, by turns.
use Rattle.std.specs.Prelude.{◌≡◌, ◌/◌, ◌%◌, ℕ, List, [], length, slice_get, slice_index_or}

-- item i stands in list i mod n, behind those that were dealt to it before; if there is no item i, nothing stands there
pub record AreDealt {X : Type 0} (items : List X) (n : ℕ) (lists : List (List X)) : Type 0 where
  pub count : length lists ≡ n
  pub each : (i : ℕ) → slice_get (slice_index_or lists (i % n) []) (i / n) ≡ slice_get items i
