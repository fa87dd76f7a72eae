-- Which states of the front a core stands for.
use Rattle.std.specs.Prelude.{◌≡◌, ℕ, ◌+◌, ◌*◌, ◌%◌, ◌<◌, ◌≤◌, [], length, map, slice_get, Some}
use Rattle.mbj_types.specs.Result.{result_of}
use Rattle.mbj_types.specs.declared.job.Job.{Job}
use Rattle.mbj_types.specs.declared.done.Done.{Done}
use Rattle.mbj_core.specs.Cells.{result_in, cell_of}
use Rattle.mbj_core.specs.Parties.{FrontState, new_party}
use Rattle.mbj_core.specs.Lawful.{Lawful}
use Rattle.mbj_core.specs.Events.{Event, Answer, Step}
use Rattle.mbj_core.specs.CoreStates.{CoreState, cell_in, jobs_out, out_of}
use Rattle.mbj_core.specs.declared.cells.TheConstants.{SUBMITTER_CELLS}
use Rattle.mbj_core.specs.declared.party.Phase.TheVariants.{Rest}

-- The states that agree with the core, with all parties at rest, whatever they have looked at. The core keeps no results
-- that are still to be computed, and forgets those that it has handed out: each result that is out is that of its cell.
pub record StandsFor (core : CoreState) (f : FrontState Job Done) : Type 0 where
  pub each_cell : (c : ℕ) → c < SUBMITTER_CELLS * core.submitters → cell_in core c ≡ Some (f.cells c)
  pub at_rest : (p : ℕ) → ((f.seats p).number ≡ p) × ((f.seats p).phase ≡ Rest)
  -- the hands have the same cells in the same order, each with the result of its job
  pub each_hand : (p : ℕ) → p < core.submitters + core.workers → slice_get core.hands p ≡ Some (map (λ e. e.0) (f.seats p).hand)
  pub hand_results : (p k c : ℕ) (d : Done) → slice_get (f.seats p).hand k ≡ Some (c, d) → result_in result_of (f.cells c) ≡ Some d
  -- for each submitter as many are out, from a number with the same cell on, each with the result of its cell
  pub each_first : (s : ℕ) → s < core.submitters → (f.seats s).handed % SUBMITTER_CELLS ≡ (jobs_out core s).first
  pub each_out : (s : ℕ) → s < core.submitters → length (f.seats s).due ≡ (f.seats s).handed + out_of core s
  pub due_results : (s n : ℕ) → s < core.submitters → (f.seats s).handed ≤ n → n < length (f.seats s).due → result_in result_of (f.cells (cell_of s n)) ≡ slice_get (f.seats s).due n
  -- workers post nothing, and there are no other parties
  pub posters : (p : ℕ) → core.submitters ≤ p → ((f.seats p).due ≡ []) × ((f.seats p).handed ≡ 0)
  pub nobody : (p : ℕ) → core.submitters + core.workers ≤ p → f.seats p ≡ new_party p

-- the call led from each state that the old core stands for to one that the new core stands for, by this event
abbrev pub Leads : CoreState → Event Job Done → Answer Job Done → CoreState → Type 0
Leads old e a new =
    (f : FrontState Job Done) → StandsFor old f
    → (g : FrontState Job Done) × Step result_of old.submitters old.workers f e a g × StandsFor new g

-- a lawful state stands behind the core
abbrev pub IsBacked : CoreState → Type 0
IsBacked core = ∥ ((f : FrontState Job Done) × StandsFor core f × Lawful result_of core.submitters core.workers f) ∥₁
