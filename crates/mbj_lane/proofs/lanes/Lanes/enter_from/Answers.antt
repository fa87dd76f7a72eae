use Rattle.std.proofs.Common.{ℕ, arith}
use Rattle.std.proofs.lemmas.List.{length-map}
use Rattle.mbj_lane.specs.Slots.{slots_of}
use Rattle.mbj_lane.proofs.Listing.{enters-lane, entered, listed-entered, map-push}
use Rattle.mbj_lane.proofs.Standing.{length_order}
use Rattle.mbj_lane.proofs.lanes.Lanes.enter_from.Goals as goal

pub give-requires-clause-lane : goal.give-requires-clause-lane
give-requires-clause-lane g c =
    let l = c.self.inside in
    let f = g.K.SlotKernel.slot l.slots in
    (enters-lane g.K.Kernel.LANES f (slots_of l.order.items) l.idle.items c.pop.new.self.items c.in-Some.slot c.self.invariant.0
    c.in-Some.ensures.items).0

pub give-requires-clause-idle : goal.give-requires-clause-idle
give-requires-clause-idle g c =
    let l = c.self.inside in
    let f = g.K.SlotKernel.slot l.slots in
    (enters-lane g.K.Kernel.LANES f (slots_of l.order.items) l.idle.items c.pop.new.self.items c.in-Some.slot c.self.invariant.0
    c.in-Some.ensures.items).1

pub push_reserved-requires : goal.push_reserved-requires
push_reserved-requires g c =
    let size = length_order g.K.Kernel.LANES (g.K.SlotKernel.slot c.self.inside.slots) c.self.inside.order.items c.args.self.now c.self.invariant.0.busy c.self.view_is in
    omega (arith, size, c.requires.free, c.self.inside.order.ok.0, c.self.invariant.1)

pub invariant_of-self : goal.invariant_of-self
invariant_of-self g c =
    let l = c.self.inside in
    let f = g.K.SlotKernel.slot l.slots in
    let f' = g.K.SlotKernel.slot c.give.new.slots in
    let now = entered g.K.Kernel.LANES f (slots_of l.order.items) l.idle.items c.pop.new.self.items c.in-Some.slot c.self.invariant.0
    c.in-Some.ensures.items f' c.give.ensures.0 c.give.ensures.1 in
    rw (c.push_reserved.ensures.items, map-push (λ (s : ℕ × ℕ). s.0) l.order.items (c.in-Some.slot, c.args.place)) (now, omega arith, omega arith)

pub unreachable-requires : goal.unreachable-requires
unreachable-requires g c =
    let size = length_order g.K.Kernel.LANES (g.K.SlotKernel.slot c.self.inside.slots) c.self.inside.order.items c.args.self.now c.self.invariant.0.busy c.self.view_is in
    let slots = length-map c.self.inside.order.items (λ (s : ℕ × ℕ). s.0) in
    omega (arith, size, slots, c.self.invariant.0.count, c.requires.free, c.in-None.ensures.cases.0, c.self.inside.idle.ok.0)

pub returns-clause-entry : goal.returns-clause-entry
returns-clause-entry g c =
    let l = c.self.inside in
    let f = g.K.SlotKernel.slot l.slots in
    let f' = g.K.SlotKernel.slot c.give.new.slots in
    let now = listed-entered g.K.Kernel.LANES f (slots_of l.order.items) l.idle.items c.pop.new.self.items c.in-Some.slot c.self.invariant.0
    c.in-Some.ensures.items f' c.give.ensures.0 c.give.ensures.1 in
    (c.give.ensures.0, (rw (c.push_reserved.ensures.items, map-push (λ (s : ℕ × ℕ). s.0) l.order.items (c.in-Some.slot, c.args.place), ← c.self.view_is) now), c.give.ensures.2, c.give.ensures.3)

pub returns-clause-places : goal.returns-clause-places
returns-clause-places g c =
    let l = c.self.inside in
    rw (c.push_reserved.ensures.items, ← c.self.view_is) (map-push (λ (s : ℕ × ℕ). s.1) l.order.items (c.in-Some.slot, c.args.place))
