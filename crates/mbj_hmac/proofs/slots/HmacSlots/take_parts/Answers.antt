use Rattle.std.proofs.Common.{◌<◌, ◌∙◌, ℕ, List, inl, length, length-set, ap, ap₂, arith}
use Rattle.mbj_types.specs.Lanes.{lane_at}
use Rattle.mbj_hmac.specs.Rounds.{HmacState}
use Rattle.mbj_hmac.proofs.InLanes.{done_read, entry_read, ready_set, slot_left, tied_set}
use Rattle.mbj_hmac.proofs.slots.HmacSlots.take_parts.Goals as goal

pub end_parts-requires : goal.end_parts-requires
end_parts-requires g c =
    let s = c.self.inside in
    done_read g.H.LaneHash.LANES (g.H.LaneHash.lane s.lanes.states) (g.H.LaneHash.lane s.lanes.inner) s.lanes.rests.left s.lanes.rests.turns s.entries.items
    c.args.self.now c.self.view_is c.self.invariant.0 c.self.invariant.1 g.met.H.LaneHash.narrow
    c.args.i c.index_mut-entry.result.now c.requires.lane c.index_mut-entry.ensures.value c.requires.busy c.requires.done

pub invariant_of-self : goal.invariant_of-self
invariant_of-self g c =
    let s = c.self.inside in
    let old = s.lanes.rests in
    let new = c.leave.new.self.rests in
    let out = c.leave.ensures in
    let es = s.entries.items in
    let i = c.args.i in
    let lt : i < length es = omega (arith, c.requires.lane, c.self.invariant.1) in
    let e = c.end_parts.new.self in (
      tied_set old.left old.turns new.left new.turns es i e lt out.rests (λ j h apart. ap (λ (v : List ℕ). lane_at 32 v j) out.turns) c.self.invariant.0 (inl (out.rest, c.end_parts.ensures.rest)),
      length-set es i e ∙ c.self.invariant.1,
      ready_set g.H.LaneHash.hashing (g.H.LaneHash.lane s.lanes.starts) (g.H.LaneHash.lane c.leave.new.self.starts) old.bits new.bits old.left new.left old.turns es i g.H.LaneHash.LANES e
          lt (omega (arith, c.self.invariant.1)) c.self.invariant.0 out.rests (λ j h apart. ap (λ (v : List ℕ). lane_at 32 v j) out.bits)
          (λ j h apart. ap (λ states. g.H.LaneHash.lane states j) out.starts) c.self.invariant.2 (λ busy. absurd (omega (arith, out.rest))),
    )

pub returns-clause-packet : goal.returns-clause-packet
returns-clause-packet g c e there =
    let s = c.self.inside in
    let read = entry_read g.H.LaneHash.LANES (g.H.LaneHash.lane s.lanes.states) (g.H.LaneHash.lane s.lanes.inner) s.lanes.rests.left s.lanes.rests.turns s.entries.items
    c.args.self.now c.self.view_is c.self.invariant.0 c.self.invariant.1 g.met.H.LaneHash.narrow
    c.args.i c.index_mut-entry.result.now e c.requires.lane c.index_mut-entry.ensures.value there in
    c.end_parts.ensures.packet ∙ ap (λ (x : HmacState). x.packet) read.0 ∙ ap (λ (x : HmacState). x.packet) read.1

pub returns-clause-tag : goal.returns-clause-tag
returns-clause-tag g c e there =
    let s = c.self.inside in
    let read = entry_read g.H.LaneHash.LANES (g.H.LaneHash.lane s.lanes.states) (g.H.LaneHash.lane s.lanes.inner) s.lanes.rests.left s.lanes.rests.turns s.entries.items
    c.args.self.now c.self.view_is c.self.invariant.0 c.self.invariant.1 g.met.H.LaneHash.narrow
    c.args.i c.index_mut-entry.result.now e c.requires.lane c.index_mut-entry.ensures.value there in
    let chain = c.scattered-chain.ensures ∙ ap (λ states. g.H.LaneHash.lane states c.args.i) c.leave.ensures.states in
    let digest = g.H.LaneHash.hashing.digest in
    c.end_parts.ensures.tag ∙ ap₂ (λ (x : HmacState) k. digest x.hash k) read.0 chain ∙ ap (λ (x : HmacState). digest x.hash x.chain) read.1

pub returns-clause-idle : goal.returns-clause-idle
returns-clause-idle g c =
    let s = c.self.inside in
    let new = c.leave.new.self in
    let out = c.leave.ensures in
    slot_left g.H.LaneHash.LANES (g.H.LaneHash.lane s.lanes.states) (g.H.LaneHash.lane s.lanes.inner) s.lanes.rests.left s.lanes.rests.turns s.entries.items
    c.args.self.now c.self.view_is c.self.invariant.0 c.self.invariant.1 g.met.H.LaneHash.narrow
    (g.H.LaneHash.lane new.states) (g.H.LaneHash.lane new.inner) new.rests.left c.args.i c.end_parts.new.self c.requires.lane out.rest out.rests
    (λ j. ap (λ states. g.H.LaneHash.lane states j) out.states) (λ j. ap (λ states. g.H.LaneHash.lane states j) out.inner)
