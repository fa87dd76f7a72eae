-- What holds of a replay and of the front between two commands, and what it is for lines to tell of events.
use Rattle.std.proofs.Common.{◌≡◌, ◌≢◌, ◌∙◌, ◌+◌, ◌*◌, ◌<◌, ◌≤◌, [], ◌∷◌, sym, subst, refl, ℕ, List, Option, None, Some, map, length, option_to_list, arith}
use Rattle.std.specs.Prelude.{slice_get}
use Rattle.std.specs.List.{AllZip, flat_map}
use Rattle.std.proofs.lemmas.Option.{same_Some, slice_get_within}
use Rattle.mbj_types.specs.Result.{result_of}
use Rattle.mbj_types.specs.declared.job.Job.{Job}
use Rattle.mbj_types.specs.declared.done.Done.{Done}
use Rattle.mbj_core.specs.Cells.{Cell, ready, result_in}
use Rattle.mbj_core.specs.Parties.{FrontState}
use Rattle.mbj_core.specs.Lawful.{Lawful}
use Rattle.mbj_core.specs.Runs.{Run}
use Rattle.mbj_core.specs.CoreStates.{CoreState, cell_in, out_of}
use Rattle.mbj_core.specs.Stands.{StandsFor, IsBacked}
use Rattle.mbj_core.specs.declared.cells.TheConstants.{SUBMITTER_CELLS}
use Rattle.mbj_core.proofs.Calls.{Sizes}
use Rattle.mbj_core.proofs.Steps.{Sound, step_sound}
use Rattle.mbj_manager.specs.State.{ManagerState}
use Rattle.mbj_replay.specs.Events.{Answered, ResultIs, Tells}
use Rattle.mbj_replay.specs.Replay.{Replaying, Replayed, cell_number}
use Rattle.mbj_replay.specs.declared.line.ReplayLine.{ReplayLine}

-- the core stands for f, whose cells hold the jobs of the file and their results, by the numbers of the replay
pub record Stands (jobs : List Job) (r : Replaying) (f : FrontState Job Done) : Type 0 where
  pub sizes : Sizes r.core
  pub front : StandsFor r.core f
  pub law : Lawful result_of r.core.submitters r.core.workers f
  pub manager_count : length r.managers ≡ r.core.workers
  pub number_count : length r.numbers ≡ SUBMITTER_CELLS * r.core.submitters
  pub jobs_are : (cell : ℕ) (job : Job) → cell < SUBMITTER_CELLS * r.core.submitters → f.cells cell ≡ ready job → slice_get jobs (cell_number r cell) ≡ Some job
  pub results : (cell : ℕ) (d : Done) → cell < SUBMITTER_CELLS * r.core.submitters → result_in result_of (f.cells cell) ≡ Some d
      → ResultIs jobs (cell_number r cell) d

-- a worker's manager owes the results of the worker's hand, in the same order
abbrev pub Owes : ℕ → FrontState Job Done → ℕ → ManagerState → Type 0
Owes submitters f w m = m.owed ≡ map (λ e. e.1) (f.seats (submitters + w)).hand

abbrev pub EachOwes : Replaying → FrontState Job Done → Type 0
EachOwes r f = (w : ℕ) (m : ManagerState) → slice_get r.managers w ≡ Some m → Owes r.core.submitters f w m

abbrev pub OthersOwe : ℕ → Replaying → FrontState Job Done → Type 0
OthersOwe w r f = (v : ℕ) (m : ManagerState) → v ≢ w → slice_get r.managers v ≡ Some m → Owes r.core.submitters f v m

-- between two commands
pub record Plays (jobs : List Job) (r : Replaying) (f : FrontState Job Done) : Type 0 where
  pub stands : Stands jobs r f
  pub owes : EachOwes r f

-- lines and a state that are told at r tell of events that lead from f
pub record Goes (jobs : List Job) (r : Replaying) (f : FrontState Job Done) (t : Replayed) : Type 0 where
  pub events : List (Option Answered)
  pub to : FrontState Job Done
  pub tells : AllZip (Tells jobs r.core.submitters) t.0 events
  pub run : Run result_of r.core.submitters r.core.workers f (flat_map option_to_list events) to
  pub plays : Plays jobs t.1 to
  pub submitters : t.1.core.submitters ≡ r.core.submitters
  pub workers : t.1.core.workers ≡ r.core.workers

pub sound : (core : CoreState) (f : FrontState Job Done) → StandsFor core f → Lawful result_of core.submitters core.workers f → Sound result_of core.submitters core.workers f
sound core f front law = (λ p. (front.at_rest p).1, law)

pub run-sound : (submitters workers : ℕ) (f g : FrontState Job Done) (events : List Answered) → Run result_of submitters workers f events g
    → Sound result_of submitters workers f → Sound result_of submitters workers g
run-sound submitters workers f g [] run ok = subst (Sound result_of submitters workers) (sym run) ok
run-sound submitters workers f g (e ∷ events) run ok =
    run-sound submitters workers run.0 g events run.2 (step_sound result_of submitters workers f run.0 e.0 e.1 run.1 ok)

pub backed : (jobs : List Job) (r : Replaying) (f : FrontState Job Done) → Stands jobs r f → IsBacked r.core
backed jobs r f s = ∣ (f, s.front, s.law) ∣₁

-- how many are out of a submitter
pub out-within : (jobs : List Job) (r : Replaying) (f : FrontState Job Done) (s : ℕ) → Stands jobs r f → s < r.core.submitters
    → out_of r.core s ≤ SUBMITTER_CELLS
out-within jobs r f s stands below =
    let out = stands.front.each_out s below in
    let most = stands.law.within s in
    omega arith

-- what a cell of the core holds is in f
pub cell-is : (jobs : List Job) (r : Replaying) (f : FrontState Job Done) (cell : ℕ) (x : Cell Job Done) → Stands jobs r f → cell_in r.core cell ≡ Some x
    → (cell < SUBMITTER_CELLS * r.core.submitters) × (f.cells cell ≡ x)
cell-is jobs r f cell x stands is =
    let within = slice_get_within r.core.cells cell x is in
    let count = stands.sizes.cells in
    let below : cell < SUBMITTER_CELLS * r.core.submitters = omega (arith, within, count) in
    (below, same_Some (f.cells cell) x (sym (stands.front.each_cell cell below) ∙ is))

-- a line that tells of nothing
pub goes-nowhere : (jobs : List Job) (r : Replaying) (f : FrontState Job Done) (l : ReplayLine) → Plays jobs r f → Tells jobs r.core.submitters l None → Goes jobs r f (l ∷ [], r)
goes-nowhere jobs r f l plays none = record {
  events = None ∷ [];
  to = f;
  tells = (none, tt);
  run = refl;
  plays = plays;
  submitters = refl;
  workers = refl;
}
