-- The entry of the next slot, if there is one, changes places with what stands behind those before it, which is none.
use Rattle.std.proofs.Common.{◌≡◌, ℕ, suc, ◌+◌, ◌<◌, ◌≤◌, false, is_some, Option, Some, None, inl, inr, length, get_or, swap, slice_index, slice_set, refl, sym, ap, ap₂, ◌∙◌, arith, get_or-set_same, get_or-set_other, length-set}
use Rattle.std.proofs.lemmas.Bool.{cases_eq}
use Rattle.std.proofs.lemmas.List.{get_or_default}
use Rattle.mbj_types.specs.declared.kind.TheConstants.{AES_LANES}
use Rattle.mbj_aes_lanes.specs.Inside.Gathered.{gathered}
use Rattle.mbj_aes_lanes.proofs.GatheredSlots.{gathered-same, swapped-at}
use Rattle.mbj_aes_lanes.proofs.gathering.gather.Goals as goal
use Rattle.mbj_aes_lanes.proofs.gathering.gather.Goals.{then-is_some, else-is_some}

none : {A : Type 0} (o : Option A) → is_some o ≡ false → o ≡ None
none None h = refl
none (Some x) h = cc

pub slots-preserved : goal.slots-preserved
slots-preserved g c =
    let es = c.args.slots.now in
    let now = c.slots.slots in
    let i : ℕ = c.slots.i in
    let n : ℕ = c.slots.many in
    let old = c.slots.from in
    let before = c.slots.invariant in
    let size : length now ≡ AES_LANES = c.slots.auto.slots ∙ c.requires in
    elim c.if-is_some.branch [
      | then-is_some w ↦
          let new = slice_set old n i in
          let more : n + 1 ≡ suc n = omega arith in
          let within : n < length old = omega (arith, before.size, before.most) in
          let here : slice_index new n ≡ i = get_or-set_same old n i 0 within in
          let there : (p : ℕ) → p < n → slice_index new p ≡ slice_index old p =
          λ p lt. get_or-set_other old n p i 0 (λ e. absurd (omega (arith, e))) in
          rw (w.slots-is, w.from-is, w.many-is) (record {
            size = length-set old n i ∙ before.size;
            most = omega (arith, before.most);
            lanes = λ p lt. elim (cases_eq p n) [
              | inl last ↦ let at : slice_index new p ≡ i = rw last here in omega (arith, at)
              | inr ne ↦ let earlier : p < n = omega arith in omega (arith, there p earlier, before.lanes p earlier)
            ];
            moved = w.swap.ensures.after
                ∙ ap₂ (λ xs (k : ℕ). swap xs n k)
                (before.moved ∙ gathered-same (slice_index old) (slice_index new) n es (λ p lt. sym (there p lt))) (sym here)
                ∙ ap (λ k. gathered (slice_index new) k es) (sym more);
            idle = λ p le lt.
                ap (λ l. get_or l p None) w.swap.ensures.after
                ∙ swapped-at (λ m x. n + 1 ≤ m → m < i + 1 → x ≡ None) now n i None (omega (arith, size, before.most)) (omega (arith, size))
                (λ le lt. absurd (omega arith)) (λ le lt. before.idle n (omega arith) (omega arith)) p
                (λ a b le lt. let earlier : p < i = omega arith in before.idle p (omega arith) earlier) le lt;
          })
      | else-is_some w ↦
          let idle : get_or now i None ≡ None =
          get_or_default now i None c.index-slots-i.result (omega (arith, size))
          ∙ none (get_or now i c.index-slots-i.result) (sym c.is_some.ensures ∙ w.if-is_some.false) in
          rw (w.slots-is, w.from-is, w.many-is) (record {
            size = before.size;
            most = omega (arith, before.most);
            lanes = before.lanes;
            moved = before.moved;
            idle = λ p le lt. elim (cases_eq p i) [
              | inl last ↦ rw last idle
              | inr ne ↦ let earlier : p < i = omega arith in before.idle p le earlier
            ];
          })
    ]
