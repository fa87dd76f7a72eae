use Rattle.mbj_manager.proofs.Resting.{steps-end-alike}
use Rattle.mbj_manager.proofs.between.enough_steps_give_one_machine.Goals as goal

pub returns : goal.returns
returns c = steps-end-alike
