use Rattle.mbj_c.proofs.CallLaws.{all-in-order}
use Rattle.mbj_c.proofs.laws.results_come_back_with_their_ranges.Goals as goal

pub returns : goal.returns
returns c = all-in-order
