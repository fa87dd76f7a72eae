-- The law of the front: what holds in each state that events lead to.
use Rattle.std.specs.Prelude.{◌≡◌, ◌≢◌, ℕ, ◌+◌, ◌-◌, ◌*◌, ◌<◌, ◌≤◌, [], length, slice_get, Some}
use Rattle.mbj_core.specs.Cells.{free, open_by, hand_of, take_by, result_in, cell_of}
use Rattle.mbj_core.specs.Parties.{FrontState, new_party}
use Rattle.mbj_core.specs.declared.cells.TheConstants.{SUBMITTER_CELLS}
use Rattle.mbj_core.specs.declared.party.Phase.TheVariants.{Rest, Opening, Emptying}

module _ {J D : Type 0} (owed : J → D) where
  pub record Lawful (submitters workers : ℕ) (f : FrontState J D) : Type 0 where
    -- no more results are handed out than are due
    pub behind : (s : ℕ) → (f.seats s).handed ≤ length (f.seats s).due
    -- no more are out than there are cells
    pub within : (s : ℕ) → length (f.seats s).due ≤ (f.seats s).handed + SUBMITTER_CELLS
    -- a cell that is being filled or emptied isn't one of those that are out
    pub spare : (s : ℕ) → (f.seats s).phase ≢ Rest → length (f.seats s).due < (f.seats s).handed + SUBMITTER_CELLS
    -- a submitter that empties a cell has been handed a result
    pub emptied : (s : ℕ) → (f.seats s).phase ≡ Emptying → 1 ≤ (f.seats s).handed
    -- the cell of a number that is out has that number's result: it holds its job or the result, or is in a hand with it
    pub each_out : (s n : ℕ) → s < submitters → (f.seats s).handed ≤ n → n < length (f.seats s).due → result_in owed (f.cells (cell_of s n)) ≡ slice_get (f.seats s).due n
    -- a submitter that fills a cell fills that of its next number
    pub filling : (s : ℕ) → s < submitters → (f.seats s).phase ≡ Opening → f.cells (cell_of s (length (f.seats s).due)) ≡ open_by s
    -- a submitter that empties a cell empties that of the number that was handed out last
    pub emptying : (s : ℕ) → s < submitters → (f.seats s).phase ≡ Emptying → f.cells (cell_of s ((f.seats s).handed - 1)) ≡ take_by s
    -- each other cell of a submitter is free: the SUBMITTER_CELLS numbers from the first that is out on have all cells
    pub idle : (s n : ℕ) → s < submitters → length (f.seats s).due ≤ n → n < (f.seats s).handed + SUBMITTER_CELLS
        → ((f.seats s).phase ≡ Opening → cell_of s n ≢ cell_of s (length (f.seats s).due)) → ((f.seats s).phase ≡ Emptying → cell_of s n ≢ cell_of s ((f.seats s).handed - 1))
        → f.cells (cell_of s n) ≡ free
    -- a cell in a hand says whose hand it is, and the same result
    pub in_hand : (p k c : ℕ) (d : D) → slice_get (f.seats p).hand k ≡ Some (c, d) → (c < SUBMITTER_CELLS * submitters) × (f.cells c ≡ hand_of p d)
    -- a cell that is said to be in a hand is there
    pub held : (p c : ℕ) (d : D) → c < SUBMITTER_CELLS * submitters → f.cells c ≡ hand_of p d → (k : ℕ) × (slice_get (f.seats p).hand k ≡ Some (c, d))
    -- no hand has a cell twice; by in_hand no two hands have the same cell
    pub once : (p k l c : ℕ) (d e : D) → slice_get (f.seats p).hand k ≡ Some (c, d) → slice_get (f.seats p).hand l ≡ Some (c, e) → k ≡ l
    -- workers post nothing
    pub posters : (p : ℕ) → submitters ≤ p → ((f.seats p).due ≡ []) × ((f.seats p).phase ≡ Rest)
    -- there are no other parties
    pub nobody : (p : ℕ) → submitters + workers ≤ p → f.seats p ≡ new_party p

  -- no state is lawful in which a party empties a cell before a result is handed to it
  abbrev pub EmptiesAfterAResult : Type 0
  EmptiesAfterAResult = (submitters workers s : ℕ) (f : FrontState J D) → (f.seats s).handed ≡ 0 → (f.seats s).phase ≡ Emptying → ¬ Lawful submitters workers f

  -- no state is lawful in which a party past submitters and workers has anything
  abbrev pub OthersHaveNothing : Type 0
  OthersHaveNothing = (submitters workers p : ℕ) (f : FrontState J D) → submitters + workers ≤ p → f.seats p ≢ new_party p → ¬ Lawful submitters workers f
