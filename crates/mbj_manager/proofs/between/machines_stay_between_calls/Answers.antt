use Rattle.mbj_manager.proofs.BetweenCalls.{machines-kept}
use Rattle.mbj_manager.proofs.between.machines_stay_between_calls.Goals as goal

pub returns : goal.returns
returns c = machines-kept
