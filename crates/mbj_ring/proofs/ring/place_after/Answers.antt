use Rattle.std.proofs.Common.{refl}
use Rattle.mbj_ring.proofs.ring.place_after.Goals as goal

pub returns : goal.returns
returns c = refl
