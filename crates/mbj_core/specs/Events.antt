-- What the parties do with the front, and what each event changes.
use Rattle.std.specs.Prelude.{◌≡◌, ◌≢◌, ℕ, ◌+◌, ◌*◌, ◌<◌, ◌≤◌, List, [], ◌∷◌, ◌++◌, length}
use Rattle.mbj_core.specs.Cells.{Cell, free, ready, done, hand_of, cell_of}
use Rattle.mbj_core.specs.Parties.{FrontState, with_due, with_handed, with_hand}
use Rattle.mbj_core.specs.declared.cells.TheConstants.{SUBMITTER_CELLS}
use Rattle.mbj_core.specs.declared.party.View.{View}

pub data Event (J D : Type 0) : Type 0 where
  -- a submitter posts a job
  post : ℕ → J → Event J D
  -- a party claims the job of a cell
  claim : ℕ → ℕ → Event J D
  -- a party finishes the job of a cell with a result
  finish : ℕ → ℕ → D → Event J D
  -- a submitter collects the result of its earliest job that is out
  collect : ℕ → Event J D

pub data Answer (J D : Type 0) : Type 0 where
  -- it is done
  carried_out : Answer J D
  -- the job that was to be posted comes back
  returned : J → Answer J D
  -- the job that was claimed
  claimed : J → Answer J D
  -- the result that was collected
  collected : D → Answer J D
  -- there is nothing to claim or collect
  nothing : Answer J D

module _ {D : Type 0} where
  -- the pair (c, d) leaves the list
  abbrev pub Leaves : List (ℕ × D) → ℕ → D → List (ℕ × D) → Type 0
  Leaves old c d new = (before : List (ℕ × D)) × (after : List (ℕ × D)) × (old ≡ before ++ (c, d) ∷ after) × (new ≡ before ++ after)

module _ {J D : Type 0} where
  -- g is f with x in the cell c and v for the part of the party p; all else stays
  pub record Changes (f g : FrontState J D) (c : ℕ) (x : Cell J D) (p : ℕ) (v : View D) : Type 0 where
    pub cell : g.cells c ≡ x
    pub other_cells : (i : ℕ) → i ≢ c → g.cells i ≡ f.cells i
    pub party : g.seats p ≡ v
    pub other_parties : (q : ℕ) → q ≢ p → g.seats q ≡ f.seats q

module _ {J D : Type 0} (owed : J → D) (submitters workers : ℕ) where
  -- The event leads from f to g with this answer, where `owed` gives the result of a job.
  abbrev pub Step : FrontState J D → Event J D → Answer J D → FrontState J D → Type 0
  -- fewer than SUBMITTER_CELLS of s are out: its next number's cell gets the job
  Step f (post s j) carried_out g =
      let v = f.seats s in
      (s < submitters) × (length v.due < v.handed + SUBMITTER_CELLS)
      × Changes f g (cell_of s (length v.due)) (ready j) s (with_due v (v.due ++ owed j ∷ []))
  -- SUBMITTER_CELLS of s are out
  Step f (post s j) (returned i) g =
      (s < submitters) × ((f.seats s).handed + SUBMITTER_CELLS ≤ length (f.seats s).due) × (i ≡ j) × (g ≡ f)
  -- c has a job: it goes to the end of the hand of p
  Step f (claim p c) (claimed j) g =
      let v = f.seats p in
      (p < submitters + workers) × (c < SUBMITTER_CELLS * submitters) × (f.cells c ≡ ready j)
      × Changes f g c (hand_of p (owed j)) p (with_hand v (v.hand ++ (c, owed j) ∷ []))
  -- c has no job
  Step f (claim p c) nothing g =
      (p < submitters + workers) × (c < SUBMITTER_CELLS * submitters) × ((j : J) → f.cells c ≢ ready j) × (g ≡ f)
  -- c is in the hand of p with this result: it leaves the hand
  Step f (finish p c d) carried_out g =
      let v = f.seats p in
      (p < submitters + workers)
      × ((hand : List (ℕ × D)) × Leaves v.hand c d hand × Changes f g c (done d) p (with_hand v hand))
  -- the earliest of s that is out has its result: it is handed out, and the cell is free (if none is out, a lawful
  -- front has no result in that cell)
  Step f (collect s) (collected d) g =
      let v = f.seats s in
      (s < submitters) × (f.cells (cell_of s v.handed) ≡ done d)
      × Changes f g (cell_of s v.handed) free s (with_handed v (v.handed + 1))
  -- none of s is out, or the earliest has no result yet
  Step f (collect s) nothing g =
      (s < submitters) × ((d : D) → f.cells (cell_of s (f.seats s).handed) ≢ done d) × (g ≡ f)
  -- no other answer is given
  Step f e a g = ⊥
