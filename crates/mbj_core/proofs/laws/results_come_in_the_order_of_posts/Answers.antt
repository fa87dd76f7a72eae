use Rattle.mbj_types.specs.Result.{result_of}
use Rattle.mbj_core.proofs.RunLaws.{results_come_in_order}
use Rattle.mbj_core.proofs.laws.results_come_in_the_order_of_posts.Goals as goal

pub returns : goal.returns
returns c = results_come_in_order result_of
