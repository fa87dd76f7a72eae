-- One block more of each entry is chained in each pass, and at the end each entry keeps its chaining value.
use Rattle.std.proofs.Common.{◌≡◌, ℕ, ◌+◌, None, Some, inl, inr, refl, sym, subst, ap, ◌∙◌, arith}
use Rattle.std.proofs.lemmas.Bool.{cases_lt}
use Rattle.std.specs.Option.{option_map}
use Rattle.mbj_lane.specs.Rounds.{after}
use Rattle.mbj_aes_lanes.specs.ChainedEntry.{chained_once}
use Rattle.mbj_aes_lanes.specs.Inside.Slots.{IsKeyOf, HasRounds}
use Rattle.mbj_aes_lanes.proofs.Chains.{ChainLaws, IsLed, advanced-none, advanced-rest, advanced-more, advanced-kept}
use Rattle.mbj_aes_lanes.proofs.SlotFacts.{has-rounds, rounds-of}
use Rattle.mbj_aes_lanes.proofs.slot_rounds.advance_by.Given as given
use Rattle.mbj_aes_lanes.proofs.slot_rounds.advance_by.Goals as goal

laws : (g : given.Over)
    → ChainLaws g.E.ChainedEntry.key_of g.E.ChainedEntry.block_of g.E.ChainedEntry.chain_of g.E.ChainedEntry.rest_of g.E.ChainedEntry.advanced g.E.ChainedEntry.kept
laws g =
    let met = g.met.E.ChainedEntry in record {
      takes = met.takes;
      keeps_own = met.keeps_own;
      keeps_last = met.keeps_last;
      advances_rest = met.advances_rest;
      keeps_key = met.keeps_key;
      keeps_block = met.keeps_block;
      keeps_rest = met.keeps_rest;
      advances_key = met.advances_key;
      falls = met.falls;
    }

none-is-some : {A : Type 0} (x : A) → None ≡ Some x → ⊥
none-is-some x h = cc

pub passes-init : goal.passes-init
passes-init g c =
    let e = g.E.ChainedEntry in
    let chain = g.C.BlocksCipher.chain_in in record {
      advanced = λ i h.
          advanced-none e.key_of e.block_of e.chain_of e.rest_of e.advanced e.kept (laws g) (chain c.load-chains.result i)
          (g.S.Slot.in_lane c.give_cmac_l.new.slots i) (c.load-chains.ensures i h);
      left = λ i h lt. refl;
    }

pub invariant_of-blocks-clause-rests : goal.invariant_of-blocks-clause-rests
invariant_of-blocks-clause-rests g c i x h is =
    let e = g.E.ChainedEntry in
    let chain = g.C.BlocksCipher.chain_in in
    let o = g.S.Slot.in_lane c.give_cmac_l.new.slots i in
    let now = g.S.Slot.in_lane c.passes.slots i in
    let same = ap (λ es. g.S.Slot.in_lane es i) (sym c.give_cmac_l.ensures) in
    let has : HasRounds e.rest_of c.args.m o = has-rounds e.rest_of c.args.m o (λ y has. c.requires.rests i y h (same ∙ has)) in
    elim (cases_lt i (g.C.BlocksCipher.lanes_of c.args.cipher.now)) [
      | inl lt ↦
          rounds-of e.rest_of 1 now x
          (advanced-rest e.key_of e.block_of e.chain_of e.rest_of e.advanced e.kept (laws g) c.passes.done c.args.m (chain c.passes.chains i)
          o now (omega arith) has (c.passes.invariant.advanced i lt))
          is
      | inr le ↦ absurd (none-is-some x (sym (c.requires.idle i le h) ∙ same ∙ sym (c.passes.invariant.left i le h) ∙ is))
    ]

pub passes-preserved : goal.passes-preserved
passes-preserved g c =
    let e = g.E.ChainedEntry in
    let chain = g.C.BlocksCipher.chain_in in
    let done = c.advance_each.ensures in record {
      advanced = λ i h.
          let o = g.S.Slot.in_lane c.give_cmac_l.new.slots i in
          let now = g.S.Slot.in_lane c.passes.slots i in
          let before = chain c.passes.chains i in
          let next = chain c.chain.new.chains i in
          let w = g.C.BlocksCipher.schedule_of c.args.cipher.now i in
          let keyed = subst (λ es. IsKeyOf e.key_of w (g.S.Slot.in_lane es i)) (sym c.give_cmac_l.ensures) (c.requires.keys i h) in
          let advanced = done.given i (omega (arith, h, c.lane_count-lanes.ensures.value))
          ∙ ap (λ x. option_map (λ y. e.advanced y x) now) (c.store.ensures i h) in
          subst (IsLed e.key_of e.block_of e.chain_of e.advanced e.kept (c.passes.done + 1) next o) (sym advanced)
          (advanced-more e.key_of e.block_of e.chain_of e.rest_of e.advanced e.kept (laws g) c.passes.done before next w o now keyed (c.chain.ensures i h)
          (c.passes.invariant.advanced i h));
      left = λ i le lt. done.left i (omega (arith, le, c.lane_count-lanes.ensures.value)) lt ∙ c.passes.invariant.left i le lt;
    }

pub returns : goal.returns
returns g c i h =
    let e = g.E.ChainedEntry in
    let chain = g.C.BlocksCipher.chain_in in
    let at = g.S.Slot.in_lane in
    let once = chained_once e.key_of e.block_of e.chain_of e.advanced e.kept in
    let old = at c.give_cmac_l.new.slots i in
    let all : c.passes.done ≡ c.args.m = omega arith in
    let same = ap (λ es. at es i) c.give_cmac_l.ensures in
    elim (cases_lt i (g.C.BlocksCipher.lanes_of c.args.cipher.now)) [
      | inl lt ↦
          c.keep_each.ensures.given i (omega (arith, lt, c.lane_count-lanes.ensures.value))
          ∙ ap (λ x. option_map (λ y. e.kept y x) (at c.passes.slots i)) (c.store-2.ensures i lt)
          ∙ advanced-kept e.key_of e.block_of e.chain_of e.rest_of e.advanced e.kept (laws g) c.passes.done (chain c.passes.chains i) old
          (at c.passes.slots i) (c.passes.invariant.advanced i lt)
          ∙ ap (λ (n : ℕ). option_map (after once n) old) all
          ∙ ap (option_map (after once c.args.m)) same
      | inr le ↦
          let idle = c.requires.idle i le h in
          c.keep_each.ensures.left i (omega (arith, le, c.lane_count-lanes.ensures.value)) h
          ∙ c.passes.invariant.left i le h
          ∙ same
          ∙ idle
          ∙ sym (ap (option_map (after once c.args.m)) idle)
    ]
