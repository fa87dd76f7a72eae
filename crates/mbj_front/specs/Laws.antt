-- What holds of each kind of step, and of the states of a running front as the core sees them.
use Rattle.std.specs.Prelude.{◌≡◌, ℕ, ◌+◌, ◌*◌, ◌<◌, List, length}
use Rattle.atomic_table.specs.Table.{State, Splits}
use Rattle.mbj_core.specs.declared.cells.TheConstants.{SUBMITTER_CELLS}
use Rattle.mbj_core.specs.declared.party.Phase.TheVariants.{Rest}
use Rattle.mbj_core.specs.Cells.{free, cell_of}
use Rattle.mbj_core.specs.Parties.{FrontState, new_party}
use Rattle.mbj_core.specs.Lawful.{Lawful}
use Rattle.mbj_front.specs.AsCore.{as_core}
use Rattle.mbj_front.specs.declared.slot.Slot.{Slot}
use Rattle.mbj_front.specs.declared.place.Place.{Place}
use Rattle.mbj_front.specs.Rule.{place, root, Shows, Rule}
use Rattle.mbj_front.specs.Looks.{IsLookedAt, IsClaimed, IsTaken}
use Rattle.mbj_front.specs.Moves.{Move, Moves, Finds, CoreSees}

module _ {J D : Type 0} (owed : J → D) where
  -- a step leads from a lawful state to a lawful one
  abbrev pub StepsKeepTheLaw : Type 0
  StepsKeepTheLaw =
      (submitters workers p : ℕ) (move : Move J D) (f g : FrontState J D)
      → Lawful owed submitters workers f → Moves owed submitters workers f p move g → Lawful owed submitters workers g

  -- a step that is allowed finds at its cell what it leads on from
  abbrev pub StepsFindTheirCell : Type 0
  StepsFindTheirCell =
      (submitters workers p : ℕ) (move : Move J D) (f g : FrontState J D)
      → Lawful owed submitters workers f → Moves owed submitters workers f p move g → Finds f p move

  -- a step is one event of the core, or changes nothing that the core sees
  abbrev pub StepsAreEvents : Type 0
  StepsAreEvents =
      (submitters workers p : ℕ) (move : Move J D) (f g : FrontState J D)
      → Lawful owed submitters workers f → Moves owed submitters workers f p move g → CoreSees owed submitters workers (as_core f) p move (as_core g)

  -- a lawful state is lawful too as the core sees it
  abbrev pub CoreSeesLawfulStates : Type 0
  CoreSeesLawfulStates =
      (submitters workers : ℕ) (f : FrontState J D)
      → Lawful owed submitters workers f → Lawful owed submitters workers (as_core f)

  -- if no party has done anything each cell is free
  abbrev pub NewFrontsAreEmpty : Type 0
  NewFrontsAreEmpty =
      (submitters workers : ℕ) (f : FrontState J D)
      → Lawful owed submitters workers f → ((p : ℕ) → f.seats p ≡ new_party p) → (c : ℕ) → c < SUBMITTER_CELLS * submitters → f.cells c ≡ free

  -- the next party is cut from the root, if the rule holds before and after: the party has done nothing
  abbrev pub CutsKeepTheRule : Type 0
  CutsKeepTheRule =
      (submitters workers seat k : ℕ) → k < submitters + workers
      → Splits (Rule owed submitters workers) seat (root submitters workers k) (root submitters workers (k + 1)) (place submitters workers (new_party k))

  -- A party that is cut looks at a cell, of a table that shows a lawful state, by a load, by a claim, or by the take of its
  -- earliest result: the word that the table has there is the look that it records.
  pub record LooksAreWordsFound (submitters workers : ℕ) (s : State (Slot J D) (Place D)) (f : FrontState J D) (p : ℕ) (held : List (ℕ × Slot J D)) : Type 0 where
    pub load : (c : ℕ) → c < SUBMITTER_CELLS * submitters → IsLookedAt owed submitters workers s f p c held
    pub claim : (c : ℕ) → c < SUBMITTER_CELLS * submitters → IsClaimed owed submitters workers s f p c held
    pub take : p < submitters → (f.seats p).phase ≡ Rest → (f.seats p).handed < length (f.seats p).due
        → IsTaken owed submitters workers s f p (cell_of p (f.seats p).handed) held

  abbrev pub LooksFindTheWord : Type 0
  LooksFindTheWord =
      (submitters workers p : ℕ) (s : State (Slot J D) (Place D)) (f : FrontState J D) (held : List (ℕ × Slot J D))
      → (shows : Shows submitters workers s f) → Lawful owed submitters workers f → p < shows.cut
      → LooksAreWordsFound submitters workers s f p held
