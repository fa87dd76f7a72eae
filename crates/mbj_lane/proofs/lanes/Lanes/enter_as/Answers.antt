use Rattle.std.proofs.Common.{ℕ, arith}
use Rattle.std.proofs.lemmas.List.{length-map}
use Rattle.mbj_lane.specs.Slots.{slots_of}
use Rattle.mbj_lane.proofs.Listing.{enters-lane, entered, listed-entered, map-push}
use Rattle.mbj_lane.proofs.Standing.{length_order}
use Rattle.mbj_lane.proofs.lanes.Lanes.enter_as.Goals as goal

pub put-requires-clause-lane : goal.put-requires-clause-lane
put-requires-clause-lane g c =
    let l = c.self.inside in
    let f = g.K.SlotKernel.slot l.slots in
    (enters-lane g.K.Kernel.LANES f (slots_of l.order.items) l.idle.items c.pop.new.self.items c.in-Some.i c.self.invariant.0
    c.in-Some.ensures.items).0

pub put-requires-clause-idle : goal.put-requires-clause-idle
put-requires-clause-idle g c =
    let l = c.self.inside in
    let f = g.K.SlotKernel.slot l.slots in
    (enters-lane g.K.Kernel.LANES f (slots_of l.order.items) l.idle.items c.pop.new.self.items c.in-Some.i c.self.invariant.0
    c.in-Some.ensures.items).1

pub push_reserved-requires : goal.push_reserved-requires
push_reserved-requires g c =
    let size = length_order g.K.Kernel.LANES (g.K.SlotKernel.slot c.self.inside.slots) c.self.inside.order.items c.args.self.now c.self.invariant.0.busy c.self.view_is in
    omega (arith, size, c.requires.free, c.self.inside.order.ok.0, c.self.invariant.1)

pub invariant_of-self : goal.invariant_of-self
invariant_of-self g c =
    let l = c.self.inside in
    let f = g.K.SlotKernel.slot l.slots in
    let f' = g.K.SlotKernel.slot c.put.new.slots in
    let now = entered g.K.Kernel.LANES f (slots_of l.order.items) l.idle.items c.pop.new.self.items c.in-Some.i c.self.invariant.0
    c.in-Some.ensures.items f' c.args.entry c.put.ensures in
    rw (c.push_reserved.ensures.items, map-push (λ (s : ℕ × ℕ). s.0) l.order.items (c.in-Some.i, c.args.place)) (now, omega arith, omega arith)

pub unreachable-requires : goal.unreachable-requires
unreachable-requires g c =
    let size = length_order g.K.Kernel.LANES (g.K.SlotKernel.slot c.self.inside.slots) c.self.inside.order.items c.args.self.now c.self.invariant.0.busy c.self.view_is in
    let slots = length-map c.self.inside.order.items (λ (s : ℕ × ℕ). s.0) in
    omega (arith, size, slots, c.self.invariant.0.count, c.requires.free, c.in-None.ensures.cases.0, c.self.inside.idle.ok.0)

pub returns-clause-entries : goal.returns-clause-entries
returns-clause-entries g c =
    let l = c.self.inside in
    let f = g.K.SlotKernel.slot l.slots in
    let f' = g.K.SlotKernel.slot c.put.new.slots in
    let now = listed-entered g.K.Kernel.LANES f (slots_of l.order.items) l.idle.items c.pop.new.self.items c.in-Some.i c.self.invariant.0
    c.in-Some.ensures.items f' c.args.entry c.put.ensures in
    rw (c.push_reserved.ensures.items, map-push (λ (s : ℕ × ℕ). s.0) l.order.items (c.in-Some.i, c.args.place), ← c.self.view_is) now

pub returns-clause-places : goal.returns-clause-places
returns-clause-places g c =
    let l = c.self.inside in
    rw (c.push_reserved.ensures.items, ← c.self.view_is) (map-push (λ (s : ℕ × ℕ). s.1) l.order.items (c.in-Some.i, c.args.place))
