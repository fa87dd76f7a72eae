use Rattle.std.proofs.Common.{◌<◌, ◌∙◌, Some, inr, length, length-set, set, get_or-set_same, sym, ap, ap₂, arith}
use Rattle.mbj_hmac.specs.Inside.InLanes.{blank, entry_in, slot_at, with_chains}
use Rattle.mbj_hmac.proofs.InLanes.{ready_set, slot_busy, slot_here, slot_is, slot_same, tied_set}
use Rattle.mbj_hmac.proofs.slots.HmacKernelSlotKernel.put.Goals as goal

pub invariant_of-slots : goal.invariant_of-slots
invariant_of-slots g c =
    let s = c.slots.inside in
    let old = s.lanes.rests in
    let new = c.enter.new.self.rests in
    let in_ = c.enter.ensures in
    let es = s.entries.items in
    let i = c.args.i in
    let e = c.args.entry in
    let lt : i < length es = omega (arith, c.requires.lane, c.slots.invariant.1) in
    let few = in_.few in (
      tied_set old.left old.turns new.left new.turns es i e lt in_.rests in_.turns c.slots.invariant.0 (inr (omega (arith, in_.rest, few), in_.rest, in_.turn)),
      length-set es i e ∙ c.slots.invariant.1,
      ready_set g.H.LaneHash.hashing (g.H.LaneHash.lane s.lanes.starts) (g.H.LaneHash.lane c.enter.new.self.starts) old.bits new.bits old.left new.left old.turns es i g.H.LaneHash.LANES e
          lt (omega (arith, c.slots.invariant.1)) c.slots.invariant.0 in_.rests in_.bits in_.starts c.slots.invariant.2 (λ busy. in_.ready),
    )

pub returns : goal.returns
returns g c =
    let n = g.H.LaneHash.LANES in
    let s = c.slots.inside in
    let old = s.lanes.rests in
    let new = c.enter.new.self.rests in
    let lane = g.H.LaneHash.lane s.lanes.states in
    let advanced = g.H.LaneHash.lane c.enter.new.self.states in
    let inner = g.H.LaneHash.lane s.lanes.inner in
    let done = g.H.LaneHash.lane c.enter.new.self.inner in
    let in_ = c.enter.ensures in
    let es = s.entries.items in
    let i = c.args.i in
    let e = c.args.entry in
    let lt : i < length es = omega (arith, c.requires.lane, c.slots.invariant.1) in
    let few = in_.few in
    let slots = slot_at advanced done new.left (set es i e) in
    record {
      here = slot_is n slots i c.requires.lane ∙ slot_busy advanced done new.left (set es i e) i (omega (arith, in_.rest, few))
          ∙ ap Some (ap₂ (λ a b. with_chains a b (entry_in (set es i e) i)) in_.chain in_.inner ∙ ap (with_chains e.chain e.inner) (get_or-set_same es i e blank lt));
      others = λ j l apart.
          slot_is n slots j l ∙ slot_same lane advanced inner done old.left new.left es e i j apart (in_.rests j (omega (arith, g.met.H.LaneHash.narrow)) apart) (in_.chains j l apart) (in_.inners j l apart)
          ∙ sym (slot_here n lane inner old.left old.turns es c.args.slots.now c.slots.view_is c.slots.invariant.0 c.slots.invariant.1 g.met.H.LaneHash.narrow j l);
    }
