-- One entry more is given its chaining value in each turn.
use Rattle.std.proofs.Common.{[], get_or, arith, subst, ◌≡◌, ℕ, sym}
use Rattle.std.specs.Option.{option_map}
use Rattle.mbj_aes_lanes.specs.Inside.Busy.{AreGiven}
use Rattle.mbj_aes_lanes.specs.Inside.Slots.{HasRounds}
use Rattle.mbj_aes_lanes.proofs.SlotFacts.{has-rounds}
use Rattle.mbj_aes_lanes.proofs.GivenSlots.{given-none, given-more}
use Rattle.mbj_aes_lanes.proofs.slot_rounds.advance_each.Goals as goal

pub lanes-init : goal.lanes-init
lanes-init g c = given-none (λ i. option_map (λ x. g.E.ChainedEntry.advanced x (get_or c.args.chains.now i []))) (g.S.Slot.in_lane c.args.slots.now)

pub lanes-preserved : goal.lanes-preserved
lanes-preserved g c =
    let at = g.S.Slot.in_lane in
    given-more (λ i. option_map (λ x. g.E.ChainedEntry.advanced x (get_or c.args.chains.now i []))) c.lanes.i (at c.args.slots.now) (at c.lanes.slots)
    (at c.advance.new.slots) (omega (arith, c.requires.few)) c.advance.ensures c.lanes.invariant

pub returns : goal.returns
returns g c =
    let at = g.S.Slot.in_lane in
    let all : c.lanes.i ≡ c.args.lanes = omega arith in
    subst
    (λ k. AreGiven (λ i. option_map (λ x. g.E.ChainedEntry.advanced x (get_or c.args.chains.now i []))) k (at c.args.slots.now) (at c.lanes.slots))
    all c.lanes.invariant

pub advance-requires-clause-rest : goal.advance-requires-clause-rest
advance-requires-clause-rest g c =
    let e = g.E.ChainedEntry in
    let at = g.S.Slot.in_lane in
    let i : ℕ = c.lanes.i in
    subst (HasRounds e.rest_of 1) (sym (c.lanes.invariant.left i (omega arith) (omega (arith, c.requires.few))))
    (has-rounds e.rest_of 1 (at c.args.slots.now i) (λ x is. c.requires.rests i x (omega (arith, c.requires.few)) is))
