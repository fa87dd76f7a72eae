-- One slot more is looked at in each turn.
use Rattle.std.proofs.Common.{◌≡◌, ℕ, ◌<◌, None, get_or, inl, inr, sym, ap, ◌∙◌, arith}
use Rattle.std.proofs.lemmas.Bool.{cases_eq}
use Rattle.std.proofs.lemmas.List.{get_or_default}
use Rattle.mbj_aes_lanes.proofs.slots.ChainedSlotKernel.least.Goals as goal

-- the slot that is looked at
at : (g : _) (c : goal.After-lesser-least g) → c.index.result.now ≡ get_or c.args.slots.now c.lanes.i None
at g c =
    let es = c.slots.inside.entries.items in
    c.index.ensures
    ∙ get_or_default es c.lanes.i c.index.result.now None (omega (arith, c.slots.invariant.1))
    ∙ ap (λ xs. get_or xs c.lanes.i None) c.slots.view_is

pub lanes-preserved : goal.lanes-preserved
lanes-preserved g c =
    let i : ℕ = c.lanes.i in
    let most = c.lesser-least.ensures.most in record {
      most = omega (arith, most, c.lanes.invariant.most);
      below = λ k e lt is. elim (cases_eq k i) [
        | inl same ↦ c.lesser-least.ensures.below e (at g c ∙ ap (λ (j : ℕ). get_or c.args.slots.now j None) (sym same) ∙ is)
        | inr ne ↦ let before : k < i = omega arith in omega (arith, most, c.lanes.invariant.below k e before is)
      ];
      fits = λ k e lt is. elim (cases_eq k i) [
        | inl same ↦ c.lesser-least.ensures.fits e (at g c ∙ ap (λ (j : ℕ). get_or c.args.slots.now j None) (sym same) ∙ is)
        | inr ne ↦ c.lanes.invariant.fits k e (omega arith) is
      ];
      met = elim c.lesser-least.ensures.met [
        | inl same ↦ elim c.lanes.invariant.met [
          | inl all ↦ inl (same ∙ all)
          | inr m ↦ inr (m.0, m.1, omega (arith, m.2), m.3, same ∙ m.4)
        ]
        | inr m ↦ inr (i, m.0, omega arith, sym (at g c) ∙ m.1, m.2)
      ];
    }

pub returns : goal.returns
returns g c =
    let some = c.requires in record {
      below = λ i e h is. c.lanes.invariant.below i e (omega arith) is;
      met = elim c.lanes.invariant.met [
        | inl all ↦
            let inside : some.0 < c.lanes.i = omega (arith, some.1) in (
              some.0,
              some.2.0,
              some.1,
              some.2.1,
              omega (arith, all, c.lanes.invariant.below some.0 some.2.0 inside some.2.1, c.lanes.invariant.fits some.0 some.2.0 inside some.2.1),
            )
        | inr m ↦ (m.0, m.1, omega (arith, m.2), m.3, m.4)
      ];
    }
