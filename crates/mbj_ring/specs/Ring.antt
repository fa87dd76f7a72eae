-- What a contract sees of a ring.
use Rattle.std.specs.Prelude.{ℕ, ◌+◌, ◌-◌, ◌%◌, ◌<◌, ◌≤◌, List, [], ◌∷◌, ◌++◌, length, take, drop, set}
use Rattle.mbj_ring.specs.declared.ring.TheConstants.{CELLS}

-- the committed values, the earliest first; the values of the open cells, the first opened first; the place of the ring's
-- first value
pub record RingState (X : Type 0) : Type 0 where
  pub values : List X
  pub opened : List X
  pub first : ℕ

module _ {X : Type 0} where
  abbrev pub ring : List X → List X → ℕ → RingState X
  ring vs o p = record { values = vs; opened = o; first = p }

  -- the committed values, and then the open ones
  abbrev pub all_values : RingState X → List X
  all_values r = r.values ++ r.opened

  -- a cell for each value, and a place for the first
  abbrev pub IsWithin : RingState X → Type 0
  IsWithin r = (length (all_values r) ≤ CELLS) × (r.first < CELLS)

  -- the place of value i; the open cells stand behind the committed ones
  abbrev pub place_of : RingState X → ℕ → ℕ
  place_of r i = (r.first + i) % CELLS

  -- the i for which the place is that of value i
  abbrev pub number_at : RingState X → ℕ → ℕ
  number_at r p = (CELLS + p - r.first) % CELLS

  -- a committed value stands at the place
  abbrev pub IsLive : RingState X → ℕ → Type 0
  IsLive r p = (p < CELLS) × (number_at r p < length r.values)

  -- the ring with one more open value
  abbrev pub with_open_last : RingState X → X → RingState X
  with_open_last r w = ring r.values (r.opened ++ w ∷ []) r.first

  -- the ring with w for open value i
  abbrev pub with_open_at : RingState X → ℕ → X → RingState X
  with_open_at r i w = ring r.values (set r.opened i w) r.first

  -- the ring with its first n open values committed
  abbrev pub with_committed : RingState X → ℕ → RingState X
  with_committed r n = ring (r.values ++ take n r.opened) (drop n r.opened) r.first

  -- the ring with w for value i
  abbrev pub with_value_at : RingState X → ℕ → X → RingState X
  with_value_at r i w = ring (set r.values i w) r.opened r.first

  -- the ring without its first value: the next one stands one place on
  abbrev pub without_first : RingState X → RingState X
  without_first r = ring (drop 1 r.values) r.opened (place_of r 1)
