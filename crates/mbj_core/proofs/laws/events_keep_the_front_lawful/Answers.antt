use Rattle.mbj_types.specs.Result.{result_of}
use Rattle.mbj_core.proofs.RunLaws.{events_keep_the_law}
use Rattle.mbj_core.proofs.laws.events_keep_the_front_lawful.Goals as goal

pub returns : goal.returns
returns c = events_keep_the_law result_of
