-- An authentication is done in its own lanes.
use Rattle.mbj_stage.proofs.stage.stage_of_step.Goals as goal

pub returns-in-Auth : goal.returns-in-Auth
returns-in-Auth c = rw c.in-Auth.is c.auth_stage.ensures
