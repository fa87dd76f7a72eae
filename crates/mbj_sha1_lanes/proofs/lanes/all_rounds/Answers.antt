use Rattle.std.proofs.Common.{refl}
use Rattle.sha1.specs.Sha1.{rounds}
use Rattle.mbj_sha1_lanes.proofs.Windows.{window_of}
use Rattle.mbj_sha1_lanes.specs.Inside.Lanes.{working_lane}
use Rattle.mbj_sha1_lanes.proofs.lanes.all_rounds.Goals as goal

pub returns : goal.returns
unfolding rounds
returns g c i b lt words =
    let h = working_lane g.V.Lane32.lane c.args.start i in
    let r4 = c.first_four_steps-v.ensures i b h lt words refl in
    let r8 = c.first_four_steps-v-2.ensures i b h lt words r4 in
    let r12 = c.first_four_steps-v-3.ensures i b h lt words r8 in
    let r16 = c.first_four_steps-v-4.ensures i b h lt words r12 in
    let r20 = c.four_steps-v.ensures i b h lt (window_of b _ words, r16) in
    let r24 = c.four_steps-v-2.ensures i b h lt r20 in
    let r28 = c.four_steps-v-3.ensures i b h lt r24 in
    let r32 = c.four_steps-v-4.ensures i b h lt r28 in
    let r36 = c.four_steps-v-5.ensures i b h lt r32 in
    let r40 = c.four_steps-v-6.ensures i b h lt r36 in
    let r44 = c.four_steps-v-7.ensures i b h lt r40 in
    let r48 = c.four_steps-v-8.ensures i b h lt r44 in
    let r52 = c.four_steps-v-9.ensures i b h lt r48 in
    let r56 = c.four_steps-v-10.ensures i b h lt r52 in
    let r60 = c.four_steps-v-11.ensures i b h lt r56 in
    let r64 = c.four_steps-v-12.ensures i b h lt r60 in
    let r68 = c.four_steps-v-13.ensures i b h lt r64 in
    let r72 = c.four_steps-v-14.ensures i b h lt r68 in
    let r76 = c.four_steps-v-15.ensures i b h lt r72 in
    (c.four_steps.ensures i b h lt r76).1
