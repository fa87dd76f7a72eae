use Rattle.mbj_front.proofs.MoveLaws.{keeps_law}
use Rattle.mbj_front.proofs.laws.steps_keep_the_front_lawful.Goals as goal

pub returns : goal.returns
returns g c = keeps_law g.R.Results.owed
