use Rattle.std.proofs.Common.{ℕ, length, ap, arith}
use Rattle.std.proofs.lemmas.List.{length-map}
use Rattle.mbj_lane.specs.Slots.{Placed}
use Rattle.mbj_lane.proofs.Standing.{length_order}
use Rattle.mbj_lane.proofs.lanes.Lanes.len.Goals as goal

pub returns-clause-entries : goal.returns-clause-entries
returns-clause-entries g c =
    let size = length_order g.K.Kernel.LANES (g.K.SlotKernel.slot c.self.inside.slots) c.self.inside.order.items c.args.self.now c.self.invariant.0.busy c.self.view_is in
    omega (arith, c.self.inside.order.ok.0, size)

pub returns-clause-places : goal.returns-clause-places
returns-clause-places g c =
    let order = c.self.inside.order in
    omega (
      arith,
      order.ok.0,
      length-map order.items (λ (s : ℕ × ℕ). s.1),
      ap (λ (l : Placed g.row.K-Entry.Denot). length l.places) c.self.view_is,
    )
