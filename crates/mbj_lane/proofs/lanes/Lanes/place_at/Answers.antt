use Rattle.std.proofs.Common.{arith}
use Rattle.mbj_lane.proofs.Standing.{length_order}
use Rattle.mbj_lane.proofs.lanes.Lanes.place_at.Goals as goal

pub index-requires : goal.index-requires
index-requires g c =
    let size = length_order g.K.Kernel.LANES (g.K.SlotKernel.slot c.self.inside.slots) c.self.inside.order.items c.args.self.now c.self.invariant.0.busy c.self.view_is in
    omega (arith, size, c.self.inside.order.ok.0, c.requires)
