-- What a contract sees of a core, and what each call makes of it.
use Rattle.std.specs.Prelude.{◌≡◌, ℕ, ◌+◌, ◌-◌, ◌*◌, ◌%◌, not, ◌==◌, List, [], ◌∷◌, ◌++◌, replicate, set, slice_index_or, slice_get, Option, Some}
use Rattle.std.specs.List.{filter}
use Rattle.mbj_types.specs.Result.{result_of}
use Rattle.mbj_types.specs.declared.job.Job.{Job}
use Rattle.mbj_types.specs.declared.done.Done.{Done}
use Rattle.mbj_core.specs.Cells.{Cell, free, ready, done, hand_of, cell_of}
use Rattle.mbj_core.specs.declared.cells.TheConstants.{SUBMITTER_CELLS}
use Rattle.mbj_core.specs.declared.machine.JobsOut.{JobsOut}

-- The submitters' cells; the cells in each party's hand, the earliest claim first; each submitter's jobs that are out.
pub record CoreState : Type 0 where
  pub submitters : ℕ
  pub workers : ℕ
  pub cells : List (Cell Job Done)
  pub hands : List (List ℕ)
  pub outs : List JobsOut

-- nothing is posted
abbrev pub new_core : ℕ → ℕ → CoreState
new_core submitters workers = record {
  submitters = submitters;
  workers = workers;
  cells = replicate (SUBMITTER_CELLS * submitters) free;
  hands = replicate (submitters + workers) [];
  outs = replicate submitters (record { first = 0; count = 0 });
}

-- the jobs of the submitter s that are out, and how many they are
abbrev pub jobs_out : CoreState → ℕ → JobsOut
jobs_out c s = slice_index_or c.outs s (record { first = 0; count = 0 })

abbrev pub out_of : CoreState → ℕ → ℕ
out_of c s = (jobs_out c s).count

-- the cell of its earliest job that is out, and that of its next job
abbrev pub first_cell : CoreState → ℕ → ℕ
first_cell c s = cell_of s (jobs_out c s).first

abbrev pub next_cell : CoreState → ℕ → ℕ
next_cell c s = cell_of s ((jobs_out c s).first + out_of c s)

-- what a cell holds
abbrev pub cell_in : CoreState → ℕ → Option (Cell Job Done)
cell_in c i = slice_get c.cells i

-- the cell i holds a job that no party has claimed, is in the hand of the party p with this result of its job, or
-- holds a result
abbrev pub HasJob : CoreState → ℕ → Job → Type 0
HasJob c i job = cell_in c i ≡ Some (ready job)

abbrev pub HasHand : CoreState → ℕ → ℕ → Done → Type 0
HasHand c i p d = cell_in c i ≡ Some (hand_of p d)

abbrev pub HasResult : CoreState → ℕ → Done → Type 0
HasResult c i d = cell_in c i ≡ Some (done d)

-- the cells in the hand of the party p
abbrev pub hand_in : CoreState → ℕ → List ℕ
hand_in c p = slice_index_or c.hands p []

-- the submitter s has posted the job
abbrev pub posted : CoreState → ℕ → Job → CoreState
posted c s job = record c {
  cells = set c.cells (next_cell c s) (ready job);
  outs = set c.outs s (record (jobs_out c s) { count = out_of c s + 1 });
}

-- the party p has claimed the job of the cell i
abbrev pub claimed_by : CoreState → ℕ → ℕ → Job → CoreState
claimed_by c p i job = record c {
  cells = set c.cells i (hand_of p (result_of job));
  hands = set c.hands p (hand_in c p ++ i ∷ []);
}

-- the party p has finished the job of the cell i
abbrev pub finished : CoreState → ℕ → ℕ → Done → CoreState
finished c p i d = record c {
  cells = set c.cells i (done d);
  hands = set c.hands p (filter (λ k. not (k == i)) (hand_in c p));
}

-- the submitter s has collected its earliest result
abbrev pub with_result_collected : CoreState → ℕ → CoreState
with_result_collected c s = record c {
  cells = set c.cells (first_cell c s) free;
  outs = set c.outs s (record { first = ((jobs_out c s).first + 1) % SUBMITTER_CELLS; count = out_of c s - 1 });
}
