use Rattle.std.proofs.Common.{◌∙◌, sym, arith}
use Rattle.std.proofs.lemmas.List.{get_or_default}
use Rattle.mbj_lane.proofs.Standing.{length_order, standing}
use Rattle.mbj_lane.proofs.Taken.{passed-too}
use Rattle.mbj_lane.proofs.lanes.Lanes.first_finished.Goals as goal

pub positions-init : goal.positions-init
positions-init g c = λ k d lt. absurd (omega arith)

pub rest_at-requires-clause-lane : goal.rest_at-requires-clause-lane
rest_at-requires-clause-lane g c =
    let s = standing g.K.Kernel.LANES (g.K.SlotKernel.slot c.self.inside.slots) c.self.inside.order.items c.args.self.now c.self.invariant.0.busy c.self.view_is c.positions.k (omega arith) c.index.ensures in
    s.lane

pub rest_at-requires-clause-busy : goal.rest_at-requires-clause-busy
rest_at-requires-clause-busy g c =
    let s = standing g.K.Kernel.LANES (g.K.SlotKernel.slot c.self.inside.slots) c.self.inside.order.items c.args.self.now c.self.invariant.0.busy c.self.view_is c.positions.k (omega arith) c.index.ensures in
    s.there

pub positions-preserved : goal.positions-preserved
positions-preserved g c =
    let s = standing g.K.Kernel.LANES (g.K.SlotKernel.slot c.self.inside.slots) c.self.inside.order.items c.args.self.now c.self.invariant.0.busy c.self.view_is c.positions.k (omega arith) c.index.ensures in
    passed-too g.K.Kernel.rest_of c.args.self.now.entries c.positions.k s.there.0 s.position c.positions.invariant (s.entry s.there.0 s.there.1)
    (λ z. c.if-rest_at-eq0.false (c.rest_at.ensures s.there.0 s.there.1 ∙ z))

pub returns-then-rest_at-eq0 : goal.returns-then-rest_at-eq0
returns-then-rest_at-eq0 g c =
    let s = standing g.K.Kernel.LANES (g.K.SlotKernel.slot c.self.inside.slots) c.self.inside.order.items c.args.self.now c.self.invariant.0.busy c.self.view_is c.positions.k (omega arith) c.index.ensures in
    record {
      inside = s.position;
      before = c.positions.invariant;
      done = λ d. rw (get_or_default c.args.self.now.entries c.positions.k d s.there.0 s.position, ← s.entry s.there.0 s.there.1)
          (sym (c.rest_at.ensures s.there.0 s.there.1) ∙ c.if-rest_at-eq0.true);
    }

pub returns : goal.returns
returns g c =
    let size = length_order g.K.Kernel.LANES (g.K.SlotKernel.slot c.self.inside.slots) c.self.inside.order.items c.args.self.now c.self.invariant.0.busy c.self.view_is in
    λ k d lt. c.positions.invariant k d (omega (arith, size))
