use Rattle.std.proofs.Common.{◌≡◌, ◌∙◌, List, length, subst, sym, ap, arith}
use Rattle.std.specs.Vec.{with_items}
use Rattle.std.proofs.lemmas.List.{with_items_is}
use Rattle.mbj_lane.specs.Rounds.{after}
use Rattle.mbj_hmac.specs.Rounds.{HmacState, round}
use Rattle.mbj_hmac.specs.Inside.InLanes.{AreReady, AreTied, seen_at}
use Rattle.mbj_hmac.proofs.InLanes.{entry_slot, slots_advanced}
use Rattle.mbj_hmac.proofs.slots.HmacKernelSlotKernel.run_all.Goals as goal

pub run-requires-clause-rests : goal.run-requires-clause-rests
run-requires-clause-rests g c i h busy =
    let n = g.H.LaneHash.LANES in
    let s = c.slots.inside in
    let rests = s.lanes.rests in
    let lane = g.H.LaneHash.lane s.lanes.states in
    let inner = g.H.LaneHash.lane s.lanes.inner in
    let es = s.entries.items in
    let at = entry_slot n lane inner rests.left rests.turns es c.args.slots.now c.slots.view_is c.slots.invariant.0 c.slots.invariant.1 g.met.H.LaneHash.narrow i h busy in
    let rest = c.requires i (seen_at lane inner es i) at.0 at.1 in
    omega (arith, at.2, rest)

pub run-requires-clause-ready : goal.run-requires-clause-ready
run-requires-clause-ready g c = rw c.deref_mut.ensures.value c.slots.invariant.2

pub invariant_of-slots : goal.invariant_of-slots
invariant_of-slots g c =
    let all = c.slots.inside.entries in
    let new = c.run.new.self in
    let whole : length c.run.new.entries ≡ all.len = omega (arith, c.run.auto.entries, ap length c.deref_mut.ensures.value, all.ok.0) in
    let is : (with_items all c.run.new.entries).items ≡ c.run.new.entries = with_items_is all c.run.new.entries whole in (
      subst (λ (es : List HmacState). AreTied new.rests.left new.rests.turns es) (sym is) c.run.ensures.tied,
      omega (arith, ap length is, c.run.auto.entries, ap length c.deref_mut.ensures.value, c.slots.invariant.1),
      subst (λ (es : List HmacState). AreReady g.H.LaneHash.hashing (g.H.LaneHash.lane new.starts) new.rests.bits new.rests.left es) (sym is) c.run.ensures.ready,
    )

pub returns : goal.returns
returns g c =
    let n = g.H.LaneHash.LANES in
    let s = c.slots.inside in
    let rests = s.lanes.rests in
    let lane = g.H.LaneHash.lane s.lanes.states in
    let inner = g.H.LaneHash.lane s.lanes.inner in
    let es = s.entries.items in
    let all = s.entries in
    let advanced = g.H.LaneHash.lane c.run.new.self.states in
    let done = g.H.LaneHash.lane c.run.new.self.inner in
    let whole : length c.run.new.entries ≡ all.len = omega (arith, c.run.auto.entries, ap length c.deref_mut.ensures.value, all.ok.0) in
    let is = with_items_is all c.run.new.entries whole in
    let moves = rw c.deref_mut.ensures.value at c.run.ensures.advanced in
    slots_advanced n lane inner rests.left rests.turns es c.args.slots.now c.slots.view_is c.slots.invariant.0 c.slots.invariant.1 g.met.H.LaneHash.narrow
    (after (round g.H.LaneHash.hashing) c.args.m) c.args.m advanced done c.run.new.self.rests.left (with_items all c.run.new.entries).items
    (λ i h busy. ap (λ (xs : List HmacState). seen_at advanced done xs i) is ∙ moves i h busy) c.run.ensures.rests
