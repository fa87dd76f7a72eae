use Rattle.std.proofs.Common.{◌≡◌, ◌+◌, arith}
use Rattle.mbj_sha_lanes.proofs.RoundNumbers.{one_on}
use Rattle.mbj_sha_lanes.proofs.scheduled.two_steps.Goals as goal

pub returns : goal.returns
returns g c i n b h lt within words at =
    let t2 : c.args.t + 1 + 1 ≡ c.args.t + 2 = one_on c.args.t 1 in
    rw t2 at (c.step.ensures i n b h lt (omega arith) words (c.step-v.ensures i n b h lt (omega arith) words at))
