-- The rule of the front's table, which holds between any two steps: its words, its slots and what its seats know show a
-- lawful state of the front.
use Rattle.std.specs.Prelude.{◌≡◌, ℕ, ◌+◌, ◌*◌, ◌<◌, ◌≤◌, true, false, length, slice_index}
use mathlib.Core.Option.{Option, none, some}
use lib.ListN.{get_elem?}
use Rattle.atomic_table.specs.Table.{State}
use Rattle.mbj_core.specs.declared.cells.TheConstants.{SUBMITTER_CELLS}
use Rattle.mbj_core.specs.declared.party.View.{View}
use Rattle.mbj_core.specs.Cells.{Cell, free, ready, done, open_by, hand_of, take_by, word_of}
use Rattle.mbj_core.specs.Parties.{FrontState, new_party}
use Rattle.mbj_core.specs.Lawful.{Lawful}
use Rattle.mbj_front.specs.declared.slot.Slot.{Slot}
use Rattle.mbj_front.specs.declared.slot.Slot.TheVariants.{Blank, Task, Made}
use Rattle.mbj_front.specs.declared.place.Place.{Place}

-- what the slot of a cell shows at home; it is away with the party that fills or empties it, or has its job
abbrev pub home_of : {J D : Type 0} → Cell J D → Option (Slot J D)
home_of free = some Blank
home_of (ready j) = some (Task j)
home_of (done d) = some (Made d)
home_of (open_by p) = none
home_of (hand_of p d) = none
home_of (take_by p) = none

-- the place of a party whose part is v
abbrev pub place : {D : Type 0} → ℕ → ℕ → View D → Place D
place submitters workers v = record { submitters = submitters; workers = workers; root = false; view = v }

-- the place from which the parties are cut, if those below k are
abbrev pub root : {D : Type 0} → ℕ → ℕ → ℕ → Place D
root submitters workers k = record { submitters = submitters; workers = workers; root = true; view = new_party k }

-- The table shows the state f. The first seat of the table is the root's, and the next ones are those of the parties, in
-- the order in which they were cut.
pub record Shows {J D : Type 0} (submitters workers : ℕ) (table : State (Slot J D) (Place D)) (f : FrontState J D) : Type 0 where
  -- how many parties are cut
  pub cut : ℕ
  pub few : cut ≤ submitters + workers
  -- a word and a slot for each cell
  pub word_count : length table.words ≡ SUBMITTER_CELLS * submitters
  pub home_count : length table.homes ≡ SUBMITTER_CELLS * submitters
  pub each_word : (c : ℕ) → c < SUBMITTER_CELLS * submitters → slice_index table.words c ≡ word_of (f.cells c)
  pub each_home : (c : ℕ) → c < SUBMITTER_CELLS * submitters → get_elem? table.homes c ≡ some (home_of (f.cells c))
  -- the root's place, and one for each party that is cut
  pub place_count : length table.views ≡ cut + 1
  pub the_root : get_elem? table.views 0 ≡ some (root submitters workers cut)
  pub each_place : (p : ℕ) → p < cut → get_elem? table.views (p + 1) ≡ some (place submitters workers (f.seats p))
  pub each_number : (p : ℕ) → (f.seats p).number ≡ p
  -- a party that isn't cut yet has done nothing
  pub uncut : (p : ℕ) → cut ≤ p → f.seats p ≡ new_party p

abbrev pub Rule : {J D : Type 0} → (J → D) → ℕ → ℕ → State (Slot J D) (Place D) → Type 0
Rule {J} {D} owed submitters workers table = (f : FrontState J D) × Shows submitters workers table f × Lawful owed submitters workers f
