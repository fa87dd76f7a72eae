-- The stages of a job as the lane machine sees them: those that are done at once, and those in lanes with their rounds.
use Rattle.std.specs.Prelude.{ℕ, List, [], ◌∷◌, flat_map}
use Rattle.mbj_types.specs.Rounds.{rounds_of}
use Rattle.mbj_types.specs.declared.job.Job.{Job}
use Rattle.mbj_types.specs.declared.kind.Kind.{Kind}
use Rattle.mbj_stage.specs.declared.stage.Stage.{Stage}
use Rattle.mbj_stage.specs.declared.stage.Stage.TheVariants as stage
use Rattle.mbj_stage.specs.Steps.{stage_at}
use Rattle.mbj_stage.specs.declared.stage.Step.{Step}
use Rattle.mbj_stage.specs.CourseState.{CourseState, sized}

-- a stage that is left of a job: one that is done at once, or one that is done in a kind's lanes, with its rounds
pub data Pending : Type 0 where
  at_once : Pending
  in_lanes : Kind → ℕ → Pending

abbrev pub pending_by : Stage → Job → List Pending
pending_by stage.Now j = at_once ∷ []
pending_by (stage.Lane k) j = in_lanes k (rounds_of k j) ∷ []
pending_by stage.Finished j = []

-- the stages of a job for these steps
abbrev pub pending_at : Job → List Step → List Pending
pending_at j left = flat_map (λ s. pending_by (stage_at j (s ∷ [])) j) left

-- the stages that are left of a course, by its steps
abbrev pub pending : CourseState → List Pending
pending c = pending_at (sized c.lengths c.job) c.left
