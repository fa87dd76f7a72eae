-- What contracts see of a party, and what its calls make of its part of the front.
use Rattle.std.specs.Prelude.{◌≡◌, ◌≢◌, ◌⊎◌, ℕ, ◌<◌, List, ◌++◌, length}
use Rattle.mbj_types.specs.declared.job.Job.{Job}
use Rattle.mbj_types.specs.declared.done.Done.{Done}
use Rattle.mbj_core.specs.declared.party.View.{View}
use Rattle.mbj_core.specs.declared.party.Phase.TheVariants.{Rest}
use Rattle.mbj_core.specs.Cells.{cell_of}
use Rattle.mbj_front.specs.declared.seat.PartySeat.{PartySeat}
use Rattle.mbj_front.specs.declared.front.SharedFront.{SharedFront}
use Rattle.mbj_front.specs.declared.standard.Standard.{Standard}
use Rattle.mbj_front.specs.declared.words.TheConstants.{DONE}
use Rattle.mbj_front.specs.Seats.{view_of, submitters_of, IsOf}
use Rattle.mbj_front.specs.Views.{after_look, after_take, at_phase}
use Rattle.mbj_manager.specs.State.{ManagerState}
use Rattle.mbj_keys.specs.Sessions.{Known}
use Rattle.mbj_work.specs.declared.party.Party.{Party}
use Rattle.mbj_work.specs.Knowing.{notes_in}

-- its seat, its part of the front, and its manager
abbrev pub seat_of : Party → PartySeat Job Done
seat_of party = party.seat

abbrev pub part_of : Party → View Done
part_of party = view_of party.seat

abbrev pub manager_of : Party → ManagerState
manager_of party = party.manager

-- what it knows of the keys that it shares
abbrev pub notes_of : Party → List Known
notes_of party = notes_in party.known

-- the party belongs to the front
abbrev pub IsPartyOf : SharedFront Job Done Standard → Party → Type 0
IsPartyOf front party = IsOf front party.seat

-- the party is one of the submitters
abbrev pub Submits : SharedFront Job Done Standard → Party → Type 0
Submits front party = (view_of party.seat).number < submitters_of front

module _ {D : Type 0} where
  -- it collected its earliest result, whose cell is free again
  abbrev pub after_collect : View D → View D
  after_collect v = at_phase (after_take v (cell_of v.number v.handed)) Rest

  -- it collected nothing: none is out and it made no look, or its one look, at the cell of its earliest job that is out,
  -- found another word than that of a result
  abbrev pub CollectsNothing : View D → View D → Type 0
  CollectsNothing v w =
      ((length v.due ≡ v.handed) × (w ≡ v))
      ⊎ ((v.handed < length v.due) × ((word : ℕ) × (word ≢ DONE) × (w ≡ after_look v (cell_of v.number v.handed) word)))

  -- what is due and what is handed out stay as they are, the party is at rest, and looks only grow
  abbrev pub KeepsDue : View D → View D → Type 0
  KeepsDue v w =
      (w.number ≡ v.number) × (w.phase ≡ Rest) × (w.due ≡ v.due) × (w.handed ≡ v.handed)
      × ((more : List (ℕ × ℕ)) × (w.looks ≡ v.looks ++ more))
