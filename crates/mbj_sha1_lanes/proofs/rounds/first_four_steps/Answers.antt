use Rattle.std.proofs.Common.{◌≡◌, ◌+◌}
use Rattle.mbj_sha1_lanes.proofs.Windows.{one_on}
use Rattle.mbj_sha1_lanes.proofs.rounds.first_four_steps.Goals as goal

pub returns : goal.returns
returns g c i b h lt words at =
    let t2 : c.args.t + 1 + 1 ≡ c.args.t + 2 = one_on c.args.t 1 in
    let t3 : c.args.t + 2 + 1 ≡ c.args.t + 3 = one_on c.args.t 2 in
    let t4 : c.args.t + 3 + 1 ≡ c.args.t + 4 = one_on c.args.t 3 in
    let one = c.first_step-v.ensures i b h lt words at in
    let two = rw t2 at (c.first_step-v-2.ensures i b h lt words one) in
    let three = rw t3 at (c.first_step-v-3.ensures i b h lt words two) in
    rw t4 at (c.first_step.ensures i b h lt words three)
