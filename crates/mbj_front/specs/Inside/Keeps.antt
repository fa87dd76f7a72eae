-- What a seat keeps of its place.
use Rattle.std.specs.Prelude.{◌≡◌, ◌≢◌, ℕ, ◌+◌, ◌-◌, ◌*◌, ◌%◌, ◌<◌, ◌≤◌, false, List, [], ◌∷◌, length, slice_get, Some}
use Rattle.mbj_core.specs.declared.cells.TheConstants.{MAX_SUBMITTERS, MAX_WORKERS, SUBMITTER_CELLS}
use Rattle.mbj_core.specs.declared.party.View.{View}
use Rattle.mbj_core.specs.declared.party.Phase.{Phase}
use Rattle.mbj_core.specs.declared.party.Phase.TheVariants.{Rest, Opening, Emptying}
use Rattle.mbj_core.specs.Cells.{cell_of}
use Rattle.mbj_front.specs.declared.slot.Slot.{Slot}
use Rattle.mbj_front.specs.declared.slot.Slot.TheVariants.{Blank}
use Rattle.mbj_front.specs.Inside.Plays.{Mine}

module _ {J D : Type 0} where
  -- the slots of a hand, and that of the cell that is being filled or emptied before them
  abbrev pub of_hand : List (ℕ × D) → List (ℕ × Slot J D)
  of_hand [] = []
  of_hand (e ∷ hand) = (e.0, Blank) ∷ of_hand hand

  abbrev pub slots_at : Phase → View D → List (ℕ × Slot J D)
  slots_at Rest v = of_hand v.hand
  slots_at Opening v = (cell_of v.number (length v.due), Blank) ∷ of_hand v.hand
  slots_at Emptying v = (cell_of v.number (v.handed + (SUBMITTER_CELLS - 1)), Blank) ∷ of_hand v.hand

  abbrev pub slots_of : View D → List (ℕ × Slot J D)
  slots_of v = slots_at v.phase v

  -- a seat of a table with this many words, and the numbers that it keeps
  pub record Keeps (words : ℕ) (me : Mine J D) (party first out : ℕ) : Type 0 where
    pub cut : me.0.root ≡ false
    pub few_submitters : me.0.submitters ≤ MAX_SUBMITTERS
    pub few_workers : me.0.workers ≤ MAX_WORKERS
    pub word_count : words ≡ SUBMITTER_CELLS * me.0.submitters
    pub party_is : party ≡ me.0.view.number
    pub party_near : party < me.0.submitters + me.0.workers
    pub first_is : first ≡ me.0.view.handed % SUBMITTER_CELLS
    pub out_is : length me.0.view.due ≡ me.0.view.handed + out
    pub few : out ≤ SUBMITTER_CELLS
    -- a worker has none out
    pub posters : me.0.submitters ≤ party → out ≡ 0
    -- a party that fills or empties a cell is a submitter, and has room
    pub spare : me.0.view.phase ≢ Rest → (out < SUBMITTER_CELLS) × (party < me.0.submitters)
    pub slots : me.1 ≡ slots_of me.0.view
    pub near : (k c : ℕ) (d : D) → slice_get me.0.view.hand k ≡ Some (c, d) → c < words
