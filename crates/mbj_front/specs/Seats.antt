-- What contracts see of a front and of a seat.
use Rattle.std.specs.Prelude.{◌≡◌, ◌↔◌, ℕ, ◌*◌, ◌<◌, List, ◌∷◌, slice_get, Some}
use Rattle.atomic_table.specs.Table.{State}
use Rattle.mbj_core.specs.declared.cells.TheConstants.{SUBMITTER_CELLS}
use Rattle.mbj_core.specs.declared.party.View.{View}
use Rattle.mbj_core.specs.Parties.{new_party}
use Rattle.mbj_front.specs.declared.seat.PartySeat.{PartySeat}
use Rattle.mbj_front.specs.declared.front.SharedFront.{SharedFront}
use Rattle.mbj_front.specs.declared.slot.Slot.{Slot}
use Rattle.mbj_front.specs.declared.place.Place.{Place}
use Rattle.mbj_front.specs.Moves.{Move, Led}
use Rattle.mbj_front.specs.Rule.{Rule}

-- the first cell of the hand, with its job's result
abbrev pub IsFirst : {D : Type 0} → ℕ → D → List (ℕ × D) → Type 0
IsFirst {D} cell d hand = (more : List (ℕ × D)) × (hand ≡ (cell, d) ∷ more)

module _ {J D : Type 0} where
  -- the part of the seat's party
  abbrev pub view_of : PartySeat J D → View D
  view_of seat = seat.inner.me.0.view

  abbrev pub IsSubmitter : PartySeat J D → Type 0
  IsSubmitter seat = (view_of seat).number < seat.inner.me.0.submitters

  -- the seat's party made this one step
  abbrev pub Did : (J → D) → PartySeat J D → Move J D → PartySeat J D → Type 0
  Did owed old move new = Led owed old.inner.me.0.submitters old.inner.me.0.workers (view_of old) move (view_of new)

-- what holds of a table is the rule of this many submitters and workers
abbrev pub HasRule : {J D : Type 0} → (J → D) → ℕ → ℕ → (State (Slot J D) (Place D) → Type 0) → Type 0
HasRule {J} {D} owed submitters workers holds = (table : State (Slot J D) (Place D)) → holds table ↔ Rule owed submitters workers table

module _ {J D R : Type 0} where
  -- how many parties and cells there are
  abbrev pub submitters_of : SharedFront J D R → ℕ
  submitters_of front = front.table.shared.key.submitters

  abbrev pub workers_of : SharedFront J D R → ℕ
  workers_of front = front.table.shared.key.workers

  abbrev pub cells_of : SharedFront J D R → ℕ
  cells_of front = SUBMITTER_CELLS * submitters_of front

  -- the seat belongs to the front
  abbrev pub IsOf : SharedFront J D R → PartySeat J D → Type 0
  IsOf front seat =
      (seat.inner.table_id ≡ front.table.shared.table_id)
      × (seat.inner.me.0.submitters ≡ submitters_of front) × (seat.inner.me.0.workers ≡ workers_of front)

  -- the seats belong to the front, and the one at p is that of the party p, which has done nothing
  abbrev pub IsIssued : SharedFront J D R → List (PartySeat J D) → Type 0
  IsIssued front seats = (p : ℕ) (seat : PartySeat J D) → slice_get seats p ≡ Some seat → IsOf front seat × (view_of seat ≡ new_party p)
