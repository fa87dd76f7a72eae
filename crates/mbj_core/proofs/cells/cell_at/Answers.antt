use Rattle.std.proofs.Common.{refl}
use Rattle.mbj_core.proofs.cells.cell_at.Goals as goal

pub returns : goal.returns
returns c = refl
