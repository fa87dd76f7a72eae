-- One round key more is laid out in each turn.
use Rattle.std.proofs.Common.{◌≡◌, ◌≢◌, ℕ, ◌+◌, ◌-◌, ◌*◌, ◌/◌, ◌<◌, List, [], get_or, length, slice_index, refl, sym, ap, ◌∙◌, arith, get_or-set_other, get_or-set_same, below_more}
use Rattle.std.proofs.lemmas.List.{length-set}
use Rattle.mbj_aes_lanes.proofs.LaidSchedules.{schedule_with-each}
use Rattle.mbj_aes_lanes.proofs.narrow.laid_keys.laid_keys.Goals as goal

pub keys-init : goal.keys-init
keys-init g c = record { length = refl; each = λ k h. absurd (omega arith) }

pub keys-preserved : goal.keys-preserved
keys-preserved g c =
    let inside : c.keys.r < length c.keys.keys = omega (arith, c.keys.invariant.length, c.rounds-rounds.ensures.most) in
    record {
      length = length-set c.keys.keys c.keys.r c.laid_key.result ∙ c.keys.invariant.length;
      each = below_more _ c.keys.r (λ k h. let ne : k ≢ c.keys.r = omega arith in rw get_or-set_other (c.keys.invariant.each k h))
          (rw get_or-set_same (c.laid_key.ensures ∙ c.round_key.ensures));
    }

pub returns-clause-length : goal.returns-clause-length
returns-clause-length g c = c.keys.invariant.length

pub returns-clause-schedule : goal.returns-clause-schedule
returns-clause-schedule g c =
    let laid = g.D.Direction.laid in
    let w : List ℕ = c.args.key.now in
    let n : ℕ = length w / 16 - 1 in
    let size : length w ≡ 16 * (n + 1) = omega (arith, c.rounds-rounds.ensures.length) in
    let value : c.rounds-rounds.result ≡ n = c.rounds-rounds.ensures.value in
    schedule_with-each (λ r. laid n r (slice_index (get_or c.keys.keys r []))) n w size
    (λ r h. ap (λ (n : ℕ). laid n r (slice_index (get_or c.keys.keys r []))) (sym value) ∙ c.keys.invariant.each r (omega arith))
