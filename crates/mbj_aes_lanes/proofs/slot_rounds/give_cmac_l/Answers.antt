-- Each entry is given the zero block under its own key.
use Rattle.std.proofs.Common.{ℕ, ◌<◌, [], get_or, sym, subst, arith}
use Rattle.mbj_aes_lanes.specs.Inside.Slots.{IsCmacL}
use Rattle.mbj_aes_lanes.proofs.SlotFacts.{zero-of}
use Rattle.mbj_aes_lanes.proofs.slot_rounds.give_cmac_l.Goals as goal

pub set_cmac_l-requires-clause-zero : goal.set_cmac_l-requires-clause-zero
set_cmac_l-requires-clause-zero g c =
    let e = g.E.ChainedEntry in
    let at = g.S.Slot.in_lane in
    let i : ℕ = c.lanes.i in
    let lt : i < g.C.BlocksCipher.lanes_of c.args.cipher.now = omega (arith, c.lane_count-lanes.ensures.value) in
    let zero = get_or c.cmac_l_of-values.result i [] in
    subst (λ es. IsCmacL e.key_of zero (at es i)) (sym c.lanes.invariant)
    (zero-of e.key_of (g.C.BlocksCipher.schedule_of c.args.cipher.now i) zero (at c.args.slots.now i) (c.requires.keys i lt)
    (c.cmac_l_of-values.ensures i lt (omega (arith, c.lane_count-lanes.ensures.most))))
