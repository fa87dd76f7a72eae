-- The cells of the front: which one a job has, and what a cell holds.
use Rattle.std.specs.Prelude.{ℕ, ◌+◌, ◌*◌, ◌%◌, Option, None, Some}
use Rattle.mbj_core.specs.declared.cells.TheConstants.{SUBMITTER_CELLS}

-- the cell of the job n of the submitter s; its jobs are counted from 0
abbrev pub cell_of : ℕ → ℕ → ℕ
cell_of s n = SUBMITTER_CELLS * s + n % SUBMITTER_CELLS

-- What a cell holds: J are the jobs and D the results.
pub data Cell (J D : Type 0) : Type 0 where
  -- nothing
  free : Cell J D
  -- a job
  ready : J → Cell J D
  -- a result
  done : D → Cell J D
  -- it is being filled by a party
  open_by : ℕ → Cell J D
  -- its job is with a party; this is the job's result
  hand_of : ℕ → D → Cell J D
  -- it is being emptied by a party
  take_by : ℕ → Cell J D

module _ {J D : Type 0} where
  -- the word that stands for a cell
  abbrev pub word_of : Cell J D → ℕ
  word_of free = 0
  word_of (ready j) = 1
  word_of (done d) = 2
  word_of (open_by p) = 3 + 3 * p
  word_of (hand_of p d) = 4 + 3 * p
  word_of (take_by p) = 5 + 3 * p

  -- the result that a cell's job has or will have
  abbrev pub result_in : (J → D) → Cell J D → Option D
  result_in owed free = None
  result_in owed (ready j) = Some (owed j)
  result_in owed (done d) = Some d
  result_in owed (open_by p) = None
  result_in owed (hand_of p d) = Some d
  result_in owed (take_by p) = None
