-- What a claim leaves of the front.
use Rattle.std.specs.Prelude.{◌≡◌, ℕ}
use Rattle.mbj_types.specs.declared.job.Job.{Job}
use Rattle.mbj_core.specs.Events.{claim, claimed}
use Rattle.mbj_core.specs.CoreStates.{CoreState, HasJob, claimed_by}
use Rattle.mbj_core.specs.Stands.{Leads}

-- the party claimed the job of the cell
pub record ClaimsAt (old : CoreState) (p cell : ℕ) (new : CoreState) : Type 0 where
  pub job : Job
  pub is_ready : HasJob old cell job
  pub state : new ≡ claimed_by old p cell job
  pub leads : Leads old (claim p cell) (claimed job) new
