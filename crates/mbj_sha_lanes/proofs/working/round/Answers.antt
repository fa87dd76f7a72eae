use Rattle.std.proofs.Common.{refl}
use Rattle.mbj_sha_lanes.proofs.working.round.Goals as goal

pub returns : goal.returns
returns g c i lt = rw (c.plus.ensures i lt, c.plus-2.ensures i lt, c.first_sum-first.ensures i lt, c.second_sum-second.ensures i lt) refl
