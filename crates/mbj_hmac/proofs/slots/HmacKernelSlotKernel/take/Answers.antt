use Rattle.std.proofs.Common.{◌<◌, ◌∙◌, ℕ, List, Some, inl, length, length-set, sym, ap, ap₂, arith}
use Rattle.mbj_types.specs.Lanes.{lane_at}
use Rattle.mbj_hmac.specs.Inside.InLanes.{with_chains}
use Rattle.mbj_hmac.proofs.InLanes.{done_read, entry_read, ready_set, slot_left, tied_set}
use Rattle.mbj_hmac.proofs.slots.HmacKernelSlotKernel.take.Goals as goal

pub end-requires : goal.end-requires
end-requires g c =
    let s = c.slots.inside in
    done_read g.H.LaneHash.LANES (g.H.LaneHash.lane s.lanes.states) (g.H.LaneHash.lane s.lanes.inner) s.lanes.rests.left s.lanes.rests.turns s.entries.items
    c.args.slots.now c.slots.view_is c.slots.invariant.0 c.slots.invariant.1 g.met.H.LaneHash.narrow
    c.args.i c.index_mut-entry.result.now c.requires.lane c.index_mut-entry.ensures.value c.requires.busy c.requires.done

pub invariant_of-slots : goal.invariant_of-slots
invariant_of-slots g c =
    let s = c.slots.inside in
    let old = s.lanes.rests in
    let new = c.leave.new.self.rests in
    let out = c.leave.ensures in
    let es = s.entries.items in
    let i = c.args.i in
    let lt : i < length es = omega (arith, c.requires.lane, c.slots.invariant.1) in
    let e = c.end.new.self in (
      tied_set old.left old.turns new.left new.turns es i e lt out.rests (λ j h apart. ap (λ (v : List ℕ). lane_at 32 v j) out.turns) c.slots.invariant.0 (inl (out.rest, c.end.ensures.rest)),
      length-set es i e ∙ c.slots.invariant.1,
      ready_set g.H.LaneHash.hashing (g.H.LaneHash.lane s.lanes.starts) (g.H.LaneHash.lane c.leave.new.self.starts) old.bits new.bits old.left new.left old.turns es i g.H.LaneHash.LANES e
          lt (omega (arith, c.slots.invariant.1)) c.slots.invariant.0 out.rests (λ j h apart. ap (λ (v : List ℕ). lane_at 32 v j) out.bits)
          (λ j h apart. ap (λ states. g.H.LaneHash.lane states j) out.starts) c.slots.invariant.2 (λ busy. absurd (omega (arith, out.rest))),
    )

pub returns-clause-taken : goal.returns-clause-taken
returns-clause-taken g c =
    let s = c.slots.inside in
    let lane = g.H.LaneHash.lane s.lanes.states in
    let inner = g.H.LaneHash.lane s.lanes.inner in
    let i = c.args.i in
    let busy = c.requires.busy in
    let read = entry_read g.H.LaneHash.LANES (g.H.LaneHash.lane s.lanes.states) (g.H.LaneHash.lane s.lanes.inner) s.lanes.rests.left s.lanes.rests.turns s.entries.items
    c.args.slots.now c.slots.view_is c.slots.invariant.0 c.slots.invariant.1 g.met.H.LaneHash.narrow
    i c.index_mut-entry.result.now busy.0 c.requires.lane c.index_mut-entry.ensures.value busy.1 in
    let chain = c.scattered-chain.ensures ∙ ap (λ states. g.H.LaneHash.lane states i) c.leave.ensures.states in
    let first = c.scattered-inner.ensures ∙ ap (λ states. g.H.LaneHash.lane states i) c.leave.ensures.inner in
    busy.1 ∙ ap Some (sym (c.end.ensures.taken ∙ ap₂ (λ a b. with_chains a b c.index_mut-entry.result.now) chain first ∙ ap (with_chains (lane i) (inner i)) read.0 ∙ read.1))

pub returns-clause-idle : goal.returns-clause-idle
returns-clause-idle g c =
    let s = c.slots.inside in
    let new = c.leave.new.self in
    let out = c.leave.ensures in
    slot_left g.H.LaneHash.LANES (g.H.LaneHash.lane s.lanes.states) (g.H.LaneHash.lane s.lanes.inner) s.lanes.rests.left s.lanes.rests.turns s.entries.items
    c.args.slots.now c.slots.view_is c.slots.invariant.0 c.slots.invariant.1 g.met.H.LaneHash.narrow
    (g.H.LaneHash.lane new.states) (g.H.LaneHash.lane new.inner) new.rests.left c.args.i c.end.new.self c.requires.lane out.rest out.rests
    (λ j. ap (λ states. g.H.LaneHash.lane states j) out.states) (λ j. ap (λ states. g.H.LaneHash.lane states j) out.inner)
