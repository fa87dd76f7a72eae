use Rattle.std.proofs.Common.{[], ◌∷◌, ◌<◌, ◌∙◌, length-append, inl, rules, arith}
use Rattle.mbj_hmac.specs.Inside.InLanes.{most_lanes, slot_at}
use Rattle.mbj_hmac.proofs.InLanes.{idle_push, slot_idle, slot_is}
use Rattle.mbj_hmac.proofs.slots.HmacKernelSlotKernel.new_slots.Goals as goal

pub slots-preserved : goal.slots-preserved
slots-preserved g c =
    let inv = c.slots.invariant in
    rw c.push_reserved.ensures.items (record {
      len = omega (arith, inv.len, length-append c.slots.entries.items (c.blank.result ∷ []));
      room = omega (arith, inv.room, c.push_reserved.ensures.capacity);
      rests = idle_push c.slots.entries.items c.blank.result c.blank.ensures inv.rests;
    })

pub invariant_of-result : goal.invariant_of-result
invariant_of-result g c = (
  record {
    tied = λ i h. inl (c.new.ensures i h, c.slots.invariant.rests i);
    past = λ i h le. c.new.ensures i h;
  },
  search rules,
  λ i h busy. absurd (omega (arith, c.new.ensures i h)),
)

pub returns : goal.returns
returns g c i lt =
    let lane = g.H.LaneHash.lane c.new.result.states in
    let inner = g.H.LaneHash.lane c.new.result.inner in
    let few : i < most_lanes = omega (arith, g.met.H.LaneHash.narrow) in
    slot_is g.H.LaneHash.LANES (slot_at lane inner c.new.result.rests.left c.slots.entries.items) i lt
    ∙ slot_idle lane inner c.new.result.rests.left c.slots.entries.items i (c.new.ensures i few)
