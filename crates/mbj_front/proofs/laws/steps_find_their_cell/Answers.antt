use Rattle.mbj_front.proofs.MoveLaws.{finds_cell}
use Rattle.mbj_front.proofs.laws.steps_find_their_cell.Goals as goal

pub returns : goal.returns
returns g c = finds_cell g.R.Results.owed
