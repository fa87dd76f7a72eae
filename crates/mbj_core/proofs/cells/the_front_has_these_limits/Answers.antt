use Rattle.std.proofs.Common.{refl}
use Rattle.mbj_core.proofs.cells.the_front_has_these_limits.Goals as goal

pub returns-clause-cells : goal.returns-clause-cells
returns-clause-cells c = refl

pub returns-clause-submitters : goal.returns-clause-submitters
returns-clause-submitters c = refl

pub returns-clause-workers : goal.returns-clause-workers
returns-clause-workers c = refl
