use Rattle.mbj_front.proofs.Settled.{all_free}
use Rattle.mbj_front.proofs.laws.new_fronts_are_empty.Goals as goal

pub returns : goal.returns
returns g c = all_free g.R.Results.owed
