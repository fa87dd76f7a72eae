use Rattle.std.proofs.Common.{ℕ, ◌∙◌, ap, arith}
use Rattle.std.proofs.lemmas.List.{length-map}
use Rattle.mbj_lane.specs.Slots.{slots_of}
use Rattle.mbj_lane.proofs.Listing.{left, listed-left, map-at, map-remove}
use Rattle.mbj_lane.proofs.Standing.{length_order, standing}
use Rattle.mbj_lane.proofs.lanes.Lanes.remove.Goals as goal

pub remove-i-requires : goal.remove-i-requires
remove-i-requires g c =
    let size = length_order g.K.Kernel.LANES (g.K.SlotKernel.slot c.self.inside.slots) c.self.inside.order.items c.args.self.now c.self.invariant.0.busy c.self.view_is in
    omega (arith, size, c.requires.position, c.self.inside.order.ok.0)

pub push_reserved-requires : goal.push_reserved-requires
push_reserved-requires g c =
    let size = length_order g.K.Kernel.LANES (g.K.SlotKernel.slot c.self.inside.slots) c.self.inside.order.items c.args.self.now c.self.invariant.0.busy c.self.view_is in
    omega (arith, size, c.requires.position, length-map c.self.inside.order.items (λ (s : ℕ × ℕ). s.0), c.self.invariant.0.count, c.self.inside.idle.ok.0, c.self.invariant.2)

pub take-requires-clause-lane : goal.take-requires-clause-lane
take-requires-clause-lane g c =
    let size = length_order g.K.Kernel.LANES (g.K.SlotKernel.slot c.self.inside.slots) c.self.inside.order.items c.args.self.now c.self.invariant.0.busy c.self.view_is in
    let s = standing g.K.Kernel.LANES (g.K.SlotKernel.slot c.self.inside.slots) c.self.inside.order.items c.args.self.now c.self.invariant.0.busy c.self.view_is c.args.k (omega (arith, size, c.requires.position)) c.remove-i.ensures.value in
    s.lane

pub take-requires-clause-busy : goal.take-requires-clause-busy
take-requires-clause-busy g c =
    let size = length_order g.K.Kernel.LANES (g.K.SlotKernel.slot c.self.inside.slots) c.self.inside.order.items c.args.self.now c.self.invariant.0.busy c.self.view_is in
    let s = standing g.K.Kernel.LANES (g.K.SlotKernel.slot c.self.inside.slots) c.self.inside.order.items c.args.self.now c.self.invariant.0.busy c.self.view_is c.args.k (omega (arith, size, c.requires.position)) c.remove-i.ensures.value in
    s.there

pub take-requires-clause-done : goal.take-requires-clause-done
take-requires-clause-done g c =
    let size = length_order g.K.Kernel.LANES (g.K.SlotKernel.slot c.self.inside.slots) c.self.inside.order.items c.args.self.now c.self.invariant.0.busy c.self.view_is in
    let s = standing g.K.Kernel.LANES (g.K.SlotKernel.slot c.self.inside.slots) c.self.inside.order.items c.args.self.now c.self.invariant.0.busy c.self.view_is c.args.k (omega (arith, size, c.requires.position)) c.remove-i.ensures.value in
    λ e there. ap g.K.Kernel.rest_of (s.entry e there) ∙ c.requires.done e

pub invariant_of-self : goal.invariant_of-self
invariant_of-self g c =
    let order = c.self.inside.order.items in let f = g.K.SlotKernel.slot c.self.inside.slots in
    let size = length_order g.K.Kernel.LANES (g.K.SlotKernel.slot c.self.inside.slots) c.self.inside.order.items c.args.self.now c.self.invariant.0.busy c.self.view_is in
    let s = standing g.K.Kernel.LANES (g.K.SlotKernel.slot c.self.inside.slots) c.self.inside.order.items c.args.self.now c.self.invariant.0.busy c.self.view_is c.args.k (omega (arith, size, c.requires.position)) c.remove-i.ensures.value in
    rw (c.remove-i.ensures.items, c.push_reserved.ensures.items, map-remove (λ (s : ℕ × ℕ). s.0) order c.args.k) (
      left g.K.Kernel.LANES f (g.K.SlotKernel.slot c.take.new.slots) (slots_of order) c.self.inside.idle.items c.args.k c.remove-i.result.0 c.take.result
          c.self.invariant.0 s.inside s.at c.take.ensures.taken c.take.ensures.idle,
      omega (arith, c.self.invariant.1),
      omega (arith, c.self.invariant.2),
    )

pub returns-clause-place : goal.returns-clause-place
returns-clause-place g c =
    let order = c.self.inside.order.items in
    let size = length_order g.K.Kernel.LANES (g.K.SlotKernel.slot c.self.inside.slots) c.self.inside.order.items c.args.self.now c.self.invariant.0.busy c.self.view_is in
    let s = standing g.K.Kernel.LANES (g.K.SlotKernel.slot c.self.inside.slots) c.self.inside.order.items c.args.self.now c.self.invariant.0.busy c.self.view_is c.args.k (omega (arith, size, c.requires.position)) c.remove-i.ensures.value in
    rw (← c.self.view_is) (map-at (λ (s : ℕ × ℕ). s.1) order c.args.k c.remove-i.result (omega (arith, size, c.requires.position)) c.remove-i.ensures.value)

pub returns-clause-entry : goal.returns-clause-entry
returns-clause-entry g c =
    let size = length_order g.K.Kernel.LANES (g.K.SlotKernel.slot c.self.inside.slots) c.self.inside.order.items c.args.self.now c.self.invariant.0.busy c.self.view_is in
    let s = standing g.K.Kernel.LANES (g.K.SlotKernel.slot c.self.inside.slots) c.self.inside.order.items c.args.self.now c.self.invariant.0.busy c.self.view_is c.args.k (omega (arith, size, c.requires.position)) c.remove-i.ensures.value in
    s.entry c.take.result c.take.ensures.taken

pub returns-clause-places : goal.returns-clause-places
returns-clause-places g c =
    rw (c.remove-i.ensures.items, ← c.self.view_is) (map-remove (λ (s : ℕ × ℕ). s.1) c.self.inside.order.items c.args.k)

pub returns-clause-others : goal.returns-clause-others
returns-clause-others g c =
    let order = c.self.inside.order.items in let f = g.K.SlotKernel.slot c.self.inside.slots in
    let size = length_order g.K.Kernel.LANES (g.K.SlotKernel.slot c.self.inside.slots) c.self.inside.order.items c.args.self.now c.self.invariant.0.busy c.self.view_is in
    let s = standing g.K.Kernel.LANES (g.K.SlotKernel.slot c.self.inside.slots) c.self.inside.order.items c.args.self.now c.self.invariant.0.busy c.self.view_is c.args.k (omega (arith, size, c.requires.position)) c.remove-i.ensures.value in
    let now = listed-left g.K.Kernel.LANES f (g.K.SlotKernel.slot c.take.new.slots) (slots_of order) c.self.inside.idle.items c.args.k c.remove-i.result.0
    c.take.result c.self.invariant.0 s.inside s.at c.take.ensures.taken c.take.ensures.idle in
    rw (c.remove-i.ensures.items, map-remove (λ (s : ℕ × ℕ). s.0) order c.args.k, ← c.self.view_is) now
