use Rattle.mbj_manager.proofs.Counting.{counts-apart}
use Rattle.mbj_manager.proofs.counts.counts_are_kept_apart.Goals as goal

pub returns : goal.returns
returns c = counts-apart
