use Rattle.std.proofs.Common.{◌<◌, inl, inr, [], ◌∷◌, length-append, arith}
use Rattle.mbj_lane.proofs.Listing.{idle-push, apart-push, of-push}
use Rattle.mbj_lane.proofs.lanes.Lanes.new.Goals as goal

pub lanes-preserved : goal.lanes-preserved
lanes-preserved g c =
    let v = c.lanes.idle.items in let i = c.lanes.i in
    let inv = c.lanes.invariant in
    let lt : i < g.K.Kernel.LANES = omega arith in
    rw c.push_reserved.ensures.items (record {
      len = omega (arith, length-append v (i ∷ []), inv.len);
      room = omega arith;
      idle = idle-push g.K.Kernel.LANES (g.K.SlotKernel.slot c.in_ok-slots.slots) v i inv.idle lt (c.in_ok-slots.ensures i lt);
      apart = apart-push i v inv.apart (λ h. let l = inv.below i h in omega arith);
      below = λ j h. elim (of-push j i v h) [ inl l ↦ let b = inv.below j l in omega arith | inr e ↦ omega arith ];
    })
