-- How the values of a ring lie in its cells.
use Rattle.std.specs.Prelude.{◌≡◌, ℕ, ◌+◌, ◌-◌, List, [], ◌∷◌, ◌++◌, map, length, take, drop, replicate, Option, Some, None}
use Rattle.mbj_ring.specs.declared.ring.TheConstants.{CELLS}
use Rattle.mbj_ring.specs.declared.ring.Ring.TheInside.{Inside}
use Rattle.mbj_ring.specs.Ring.{RingState, ring, IsWithin}

module _ {X : Type 0} where
  -- the list read from the place on, and round its end
  abbrev pub from_on : ℕ → List X → List X
  from_on p xs = drop p xs ++ take p xs

  -- the values that are there
  abbrev pub present : List (Option X) → List X
  present [] = []
  present (None ∷ cs) = present cs
  present (Some x ∷ cs) = x ∷ present cs

  -- n cells that begin with the values, the others empty
  unfoldable pub filled : List X → ℕ → List (Option X)
  filled xs n = map Some xs ++ replicate (n - length xs) None

module _ {X : Type 0} (r : Inside X) where
  -- the cells from the first's place on, and round the end
  abbrev pub in_order : List (Option X)
  in_order = from_on r.first r.cells.held

  -- the values in the cells, in order
  unfoldable pub found : List X
  found = present in_order

  -- the first `len` of them are committed, and the others are open
  abbrev pub state_of : RingState X
  state_of = ring (take r.len found) (drop r.len found) r.first

  -- a cell holds a value exactly where the ring has one (`laid`)
  pub record IsRing : Type 0 where
    pub cells : length r.cells.held ≡ CELLS
    pub within : IsWithin state_of
    pub laid : in_order ≡ filled found CELLS
    pub count : length found ≡ r.len + r.open_len
