-- The kinds of step on the word of a cell: where a party may make each one, what it makes of the front, and what the
-- core sees of it.
use Rattle.std.specs.Prelude.{◌≡◌, ℕ, ◌+◌, ◌-◌, ◌*◌, ◌<◌, List, length, slice_get, Some}
use Rattle.mbj_core.specs.declared.cells.TheConstants.{SUBMITTER_CELLS}
use Rattle.mbj_core.specs.declared.party.View.{View}
use Rattle.mbj_core.specs.declared.party.Phase.TheVariants.{Rest, Opening, Emptying}
use Rattle.mbj_core.specs.Cells.{free, ready, done, open_by, hand_of, take_by, word_of, cell_of}
use Rattle.mbj_core.specs.Parties.{FrontState}
use Rattle.mbj_core.specs.Lawful.{Lawful}
use Rattle.mbj_core.specs.Events.{post, claim, finish, collect, carried_out, claimed, collected, Leaves, Changes, Step}
use Rattle.mbj_front.specs.Views.{after_look, after_claim, after_finish, after_publish, after_take, at_phase}

pub data Move (J D : Type 0) : Type 0 where
  -- a submitter begins to fill the cell of its next job
  opening : Move J D
  -- the cell that it fills gets a job
  publishing : J → Move J D
  -- a party claims the job of a cell
  claiming : ℕ → J → Move J D
  -- it finishes the job of a cell in its hand with a result
  finishing : ℕ → D → Move J D
  -- a submitter takes the result of its earliest job that is out
  taking : D → Move J D
  -- the cell that it empties is free again
  freeing : Move J D
  -- a party finds a word at a cell: a scan, or a claim or a take that found another word than it leads on from
  looking : ℕ → ℕ → Move J D

module _ {J D : Type 0} where
  -- what the cell of the step holds before
  abbrev pub Finds : FrontState J D → ℕ → Move J D → Type 0
  Finds f p opening = f.cells (cell_of p (length (f.seats p).due)) ≡ free
  Finds f p (publishing j) = f.cells (cell_of p (length (f.seats p).due)) ≡ open_by p
  Finds f p (claiming c j) = f.cells c ≡ ready j
  Finds f p (finishing c d) = f.cells c ≡ hand_of p d
  Finds f p (taking d) =
      let v = f.seats p in
      (f.cells (cell_of p v.handed) ≡ done d) × (slice_get v.due v.handed ≡ Some d)
  Finds f p freeing = f.cells (cell_of p ((f.seats p).handed - 1)) ≡ take_by p
  Finds f p (looking c word) = word_of (f.cells c) ≡ word

module _ {J D : Type 0} (owed : J → D) (submitters workers : ℕ) where
  -- The party p may make the step in the state f, and it leads to g: at most one cell changes, and the party's own part.
  abbrev pub Moves : FrontState J D → ℕ → Move J D → FrontState J D → Type 0
  Moves f p opening g =
      let v = f.seats p in
      (p < submitters) × (v.phase ≡ Rest) × (length v.due < v.handed + SUBMITTER_CELLS)
      × Changes f g (cell_of p (length v.due)) (open_by p) p (at_phase v Opening)
  Moves f p (publishing j) g =
      let v = f.seats p in
      (p < submitters) × (v.phase ≡ Opening)
      × Changes f g (cell_of p (length v.due)) (ready j) p (after_publish v (owed j))
  Moves f p (claiming c j) g =
      (p < submitters + workers) × (c < SUBMITTER_CELLS * submitters) × (f.cells c ≡ ready j)
      × Changes f g c (hand_of p (owed j)) p (after_claim (f.seats p) c (owed j))
  Moves f p (finishing c d) g =
      let v = f.seats p in
      (p < submitters + workers)
      × ((hand : List (ℕ × D)) × Leaves v.hand c d hand × Changes f g c (done d) p (after_finish v hand))
  Moves f p (taking d) g =
      let v = f.seats p in let c = cell_of p v.handed in
      (p < submitters) × (v.phase ≡ Rest) × (v.handed < length v.due) × (f.cells c ≡ done d)
      × Changes f g c (take_by p) p (after_take v c)
  Moves f p freeing g =
      let v = f.seats p in
      (p < submitters) × (v.phase ≡ Emptying)
      × Changes f g (cell_of p (v.handed - 1)) free p (at_phase v Rest)
  Moves f p (looking c word) g =
      (p < submitters + workers) × (c < SUBMITTER_CELLS * submitters) × (word_of (f.cells c) ≡ word)
      × Changes f g c (f.cells c) p (after_look (f.seats p) c word)

  -- what the step is to the core, where the state f leads to g
  abbrev pub CoreSees : FrontState J D → ℕ → Move J D → FrontState J D → Type 0
  CoreSees f p (publishing j) g = Step owed submitters workers f (post p j) carried_out g
  CoreSees f p (claiming c j) g = Step owed submitters workers f (claim p c) (claimed j) g
  CoreSees f p (finishing c d) g = Step owed submitters workers f (finish p c d) carried_out g
  CoreSees f p (taking d) g = Step owed submitters workers f (collect p) (collected d) g
  CoreSees f p opening g = g ≡ f
  CoreSees f p freeing g = g ≡ f
  CoreSees f p (looking c word) g = g ≡ f

  -- A party whose part was v made the step, and its part is w: the step led from some lawful state of the front to another.
  pub record Led (v : View D) (move : Move J D) (w : View D) : Type 0 where
    pub before : FrontState J D
    pub after : FrontState J D
    pub lawful_before : Lawful owed submitters workers before
    pub lawful_after : Lawful owed submitters workers after
    pub part_before : before.seats v.number ≡ v
    pub part_after : after.seats v.number ≡ w
    pub moves : Moves before v.number move after
