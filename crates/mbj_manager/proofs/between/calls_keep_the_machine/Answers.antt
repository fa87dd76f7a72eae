use Rattle.mbj_manager.proofs.CallsKeep.{calls-keep}
use Rattle.mbj_manager.proofs.between.calls_keep_the_machine.Goals as goal

pub returns : goal.returns
returns c = calls-keep
