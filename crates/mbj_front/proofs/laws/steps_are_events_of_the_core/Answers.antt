use Rattle.mbj_front.proofs.MoveLaws.{core_sees}
use Rattle.mbj_front.proofs.laws.steps_are_events_of_the_core.Goals as goal

pub returns : goal.returns
returns g c = core_sees g.R.Results.owed
