-- One lane more has its round keys in each turn.
use Rattle.std.proofs.Common.{◌≡◌, ℕ, ◌-◌, ◌/◌, List, [], inl, inr, length, sym, subst, ap, ◌∙◌, arith, get_or-set_same, get_or-set_other, length-set}
use Rattle.std.proofs.lemmas.Bool.{cases_eq}
use Rattle.mbj_types.specs.Aes.{key_schedule}
use Rattle.mbj_aes_lanes.specs.KeyBytes.{key_of_array}
use Rattle.mbj_aes_lanes.specs.Inside.LaidKeys.{laid_schedule, laid_key}
use Rattle.mbj_aes_lanes.specs.Inside.Slots.{IsKeyOf}
use Rattle.mbj_aes_lanes.proofs.slot_keys.laid_keys_in.Goals as goal

pub lanes-preserved : goal.lanes-preserved
lanes-preserved g c =
    let n : ℕ = c.args.rounds in
    let i : ℕ = c.lanes.i in
    let laid : List (List ℕ) = c.laid_keys.result in
    let key = g.E.ChainedEntry.key_of in
    let at = g.S.Slot.in_lane c.args.slots.now in
    let size : length c.schedule_of_bytes.result / 16 - 1 ≡ n = omega (arith, c.schedule_of_bytes.ensures.length) in
    let made : key_schedule (key_of_array g.E.ChainedEntry.key_rounds c.key_in-bytes.result) ≡ laid_schedule laid_key n laid =
    ap (λ (k : ℕ). key_schedule (key_of_array k c.key_in-bytes.result)) (sym c.requires.rounds)
    ∙ sym (ap (λ (k : ℕ). laid_schedule laid_key k laid) (sym size) ∙ c.laid_keys.ensures.schedule ∙ c.schedule_of_bytes.ensures.schedule) in record {
      size = length-set c.lanes.keys i laid ∙ c.lanes.invariant.size;
      keys = λ k lt. elim (cases_eq k i) [
        | inl same ↦ rw (same, get_or-set_same c.lanes.keys i laid [] (omega (arith, c.lanes.invariant.size)))
            (subst (λ w. IsKeyOf key w (at i)) made c.key_in-bytes.ensures.key)
        | inr ne ↦ rw (get_or-set_other c.lanes.keys i k laid [] ne) (c.lanes.invariant.keys k (omega arith))
      ];
    }
