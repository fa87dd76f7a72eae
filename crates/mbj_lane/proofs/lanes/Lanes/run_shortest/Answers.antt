use Rattle.std.proofs.Common.{◌∙◌, length, ap, arith}
use Rattle.mbj_lane.specs.Rounds.{after, least}
use Rattle.mbj_lane.specs.Slots.{Placed, slots_of}
use Rattle.mbj_lane.proofs.Least.{least-at}
use Rattle.mbj_lane.proofs.Advanced.{map-rests, map-ends}
use Rattle.mbj_lane.proofs.Listing.{some-busy, all-advanced, listed-advanced, least-listed}
use Rattle.mbj_lane.proofs.lanes.Lanes.run_shortest.Goals as goal

pub least-m-requires : goal.least-m-requires
least-m-requires g c =
    let l = c.self.inside in
    let same = ap (λ (v : Placed g.row.K-Entry.Denot). length v.entries) c.self.view_is in
    let some = c.requires.some in
    some-busy g.K.Kernel.LANES (g.K.SlotKernel.slot l.slots) (slots_of l.order.items) c.self.invariant.0.busy (omega (arith, same, some))

pub invariant_of-self : goal.invariant_of-self
invariant_of-self g c =
    let l = c.self.inside in (
      all-advanced g.K.Kernel.LANES (g.K.SlotKernel.slot l.slots) (g.K.SlotKernel.slot c.run_all.new.slots) (after g.K.Kernel.round c.least-m.result)
          c.run_all.ensures (slots_of l.order.items) l.idle.items c.self.invariant.0,
      c.self.invariant.1,
      c.self.invariant.2,
    )

pub returns-clause-least : goal.returns-clause-least
returns-clause-least g c =
    let l = c.self.inside in
    let same = ap (λ (v : Placed g.row.K-Entry.Denot). length v.entries) c.self.view_is in
    let some = c.requires.some in
    least-listed g.K.Kernel.LANES g.K.Kernel.rest_of (g.K.SlotKernel.slot l.slots) c.least-m.result (slots_of l.order.items) l.idle.items c.self.invariant.0
    (omega (arith, same, some)) c.least-m.ensures
    ∙ ap (λ (v : Placed g.row.K-Entry.Denot). least g.K.Kernel.rest_of v.entries) c.self.view_is

pub returns-clause-advanced : goal.returns-clause-advanced
returns-clause-advanced g c =
    let l = c.self.inside in
    rw (← c.self.view_is) (listed-advanced g.K.Kernel.LANES (g.K.SlotKernel.slot l.slots) (g.K.SlotKernel.slot c.run_all.new.slots) (after g.K.Kernel.round c.least-m.result)
    c.run_all.ensures (slots_of l.order.items) c.self.invariant.0.busy)

pub returns-clause-rests : goal.returns-clause-rests
returns-clause-rests g c =
    rw (returns-clause-advanced g c) (map-rests g.K.Kernel.round g.K.Kernel.rest_of g.met.K.Kernel.falls c.least-m.result c.args.self.now.entries)

pub returns-clause-ends : goal.returns-clause-ends
returns-clause-ends g c =
    let rest = g.K.Kernel.rest_of in
    let es = c.args.self.now.entries in
    rw (returns-clause-advanced g c) (map-ends g.K.Kernel.round rest g.met.K.Kernel.falls c.least-m.result es (rw (returns-clause-least g c) (least-at rest es)))

pub returns-clause-places : goal.returns-clause-places
returns-clause-places g c = ap (λ (v : Placed g.row.K-Entry.Denot). v.places) c.self.view_is
