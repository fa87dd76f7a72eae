use Rattle.mbj_front.proofs.Cutting.{cuts}
use Rattle.mbj_front.proofs.laws.cuts_keep_the_rule.Goals as goal

pub returns : goal.returns
returns g c = cuts g.R.Results.owed
