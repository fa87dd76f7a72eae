-- One lane more has the key of its entry in each turn.
use Rattle.std.proofs.Common.{ℕ, List, [], inl, inr, ◌∙◌, arith, get_or-set_same, get_or-set_other, length-set}
use Rattle.std.proofs.lemmas.Bool.{cases_eq}
use Rattle.mbj_aes_lanes.proofs.slot_keys.keys_in.Goals as goal

pub lanes-preserved : goal.lanes-preserved
lanes-preserved g c =
    let i : ℕ = c.lanes.i in
    let xs : List ℕ = c.key_in.result in
    let written = get_or-set_same c.lanes.keys i xs [] (omega (arith, c.lanes.invariant.size)) in record {
      size = length-set c.lanes.keys i xs ∙ c.lanes.invariant.size;
      arrays = λ k lt. elim (cases_eq k i) [
        | inl same ↦ rw (same, written) c.key_in.ensures.array
        | inr ne ↦ rw (get_or-set_other c.lanes.keys i k xs [] ne) (c.lanes.invariant.arrays k (omega arith))
      ];
      keys = λ k lt. elim (cases_eq k i) [
        | inl same ↦ rw (same, written) c.key_in.ensures.key
        | inr ne ↦ rw (get_or-set_other c.lanes.keys i k xs [] ne) (c.lanes.invariant.keys k (omega arith))
      ];
    }
