use Rattle.mbj_hmac.proofs.InLanes.{least_slot}
use Rattle.mbj_hmac.proofs.slots.HmacKernelSlotKernel.least.Goals as goal

pub returns : goal.returns
returns g c =
    let n = g.H.LaneHash.LANES in
    let s = c.slots.inside in
    let rests = s.lanes.rests in
    let lane = g.H.LaneHash.lane s.lanes.states in
    let inner = g.H.LaneHash.lane s.lanes.inner in
    let es = s.entries.items in
    let met = c.least_lane.ensures.met in
    let one = c.requires in
    least_slot n lane inner rests.left rests.turns es c.args.slots.now c.slots.view_is c.slots.invariant.0 c.slots.invariant.1 g.met.H.LaneHash.narrow
    c.least_lane.result met.0 one.0 one.2.0 c.least_lane.ensures.below met.1 met.2 one.1 one.2.1
