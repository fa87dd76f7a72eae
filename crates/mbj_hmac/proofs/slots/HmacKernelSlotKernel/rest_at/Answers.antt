use Rattle.std.proofs.Common.{◌∙◌}
use Rattle.mbj_hmac.proofs.InLanes.{slot_entry}
use Rattle.mbj_hmac.proofs.slots.HmacKernelSlotKernel.rest_at.Goals as goal

pub returns : goal.returns
returns g c e some =
    let n = g.H.LaneHash.LANES in
    let s = c.slots.inside in
    let rests = s.lanes.rests in
    let lane = g.H.LaneHash.lane s.lanes.states in
    let inner = g.H.LaneHash.lane s.lanes.inner in
    let es = s.entries.items in
    let this = slot_entry n lane inner rests.left rests.turns es c.args.slots.now c.slots.view_is c.slots.invariant.0 c.slots.invariant.1 g.met.H.LaneHash.narrow c.args.i e c.requires.lane some in
    c.word_of.ensures ∙ this.1
