use Rattle.std.proofs.Common.{refl}
use Rattle.mbj_ring.proofs.ring.a_ring_has_these_cells.Goals as goal

pub returns : goal.returns
returns c = refl
