-- A look at a cell finds the word that the table has there: what a load, a claim and a take make of each table that shows a
-- lawful state.
use Rattle.std.specs.Prelude.{◌≡◌, ◌≢◌, ℕ, ◌+◌, List, slice_index}
use Rattle.atomic_table.specs.Table.{State, Act, keeps, takes, Valid, stepped}
use Rattle.mbj_core.specs.declared.party.View.{View}
use Rattle.mbj_core.specs.Cells.{Cell, hand_of, take_by, word_of}
use Rattle.mbj_core.specs.Parties.{FrontState}
use Rattle.mbj_front.specs.declared.slot.Slot.{Slot}
use Rattle.mbj_front.specs.declared.slot.Slot.TheVariants.{Task, Made}
use Rattle.mbj_front.specs.declared.place.Place.{Place}
use Rattle.mbj_front.specs.declared.words.TheConstants.{READY, DONE}
use Rattle.mbj_front.specs.Rule.{place, Shows}
use Rattle.mbj_front.specs.Views.{after_look, after_claim, after_take}
use Rattle.mbj_front.specs.Moves.{Move, claiming, looking, taking, Moves}

-- The party p, whose seat holds these slots, steps on the word of the cell c. The table is s, which shows f.
module _ {J D : Type 0} (owed : J → D) (submitters workers : ℕ) (s : State (Slot J D) (Place D)) (f : FrontState J D) (p c : ℕ) (held : List (ℕ × Slot J D)) where
  -- the word becomes `word`, the party's part becomes v, and the seat gives or takes a slot: then the table shows a state to
  -- which f leads by the move
  pub record StepsBy (move : Move J D) (word : ℕ) (act : Act (Slot J D)) (v : View D) : Type 0 where
    pub after : FrontState J D
    pub valid : Valid s.homes held act
    pub shows : Shows submitters workers (stepped s c word (p + 1) held (place submitters workers v) act) after
    pub moves : Moves owed submitters workers f p move after

  -- the word that the table has at the cell
  abbrev pub word_found : ℕ
  word_found = slice_index s.words c

  -- it stays, and it is the look that the party records
  abbrev pub IsLookedAt : Type 0
  IsLookedAt = StepsBy (looking c word_found) word_found keeps (after_look (f.seats p) c word_found)

  -- the job of the cell is claimed if the word found is READY, and else the word is looked at
  pub record IsClaimed : Type 0 where
    pub ready : word_found ≡ READY
        → (j : J) × StepsBy (claiming c j) (word_of {J = J} (hand_of p (owed j))) (takes c (Task j)) (after_claim (f.seats p) c (owed j))
    pub other : word_found ≢ READY → IsLookedAt

  -- the result in the cell is taken if the word found is DONE, and else the word is looked at
  pub record IsTaken : Type 0 where
    pub done : word_found ≡ DONE
        → (d : D) × StepsBy (taking d) (word_of {J = J} {D = D} (take_by p)) (takes c (Made d)) (after_take (f.seats p) c)
    pub other : word_found ≢ DONE → IsLookedAt
