-- One batch more is xored in each turn, and at the end all are.
use Rattle.std.proofs.Common.{◌≡◌, ℕ, ◌+◌, ◌*◌, ◌<◌, List, [], length, take, inl, inr, refl, subst, ap, ◌∙◌, arith, get_or}
use Rattle.std.specs.List.{concat}
use Rattle.std.proofs.lemmas.Bool.{cases_lt}
use Rattle.std.proofs.lemmas.List.{get_or-take, length-take-le}
use Rattle.mbj_aes_lanes.specs.declared.narrow.by_fours.TheConstants.{BATCH_BLOCKS}
use Rattle.mbj_types.specs.Aes.{encipher}
use Rattle.mbj_types.specs.Blocks.{blocks}
use Rattle.mbj_types.specs.Gcm.{inc32, gctr}
use Rattle.mbj_blocks.specs.Walked.{Walked}
use Rattle.mbj_blocks.proofs.Walk.{walk_end, walk_over}
use Rattle.mbj_gcm.specs.Incremented.{incremented}
use Rattle.mbj_gcm.proofs.IncrementedCounters.{incremented-1, inc32-incremented, stream_from, stream_from-cons}
use Rattle.mbj_direct.proofs.counter.xor_after.Goals as goal

pub batches-init : goal.batches-init
batches-init c = record { size = c.told-before; walked = λ whole w. w }

pub batches-preserved : goal.batches-preserved
batches-preserved c =
    let e : List ℕ → List ℕ = encipher c.args.key.now in
    let t : List ℕ = c.batches.counter in
    let here : ℕ = c.min-here.result in
    let all : List (List ℕ) = c.outputs_after-outputs.result in
    let outputs : List (List ℕ) = take here all in
    let many : length outputs ≡ here = length-take-le here all (omega (arith, c.outputs_after-outputs.ensures.length)) in
    let at : ℕ = BATCH_BLOCKS * c.batches.b in
    let next : ℕ = BATCH_BLOCKS * (c.batches.b + 1) in
    let known : (j : ℕ) → j < length outputs → get_or outputs j [] ≡ e (incremented t (j + 1)) = λ j lt.
    get_or-take here all j [] (omega arith) ∙ c.outputs_after-outputs.ensures.outputs j (omega arith) in
    let text : List ℕ = c.xor_blocks.new.text in
    let after : inc32 c.incremented-counter.result ≡ incremented t (BATCH_BLOCKS + 1) =
    ap inc32 c.incremented-counter.ensures ∙ inc32-incremented t BATCH_BLOCKS c.batches.invariant.size in record {
      size = omega arith;
      walked = λ whole walked.
          let now : Walked (stream_from e t (length outputs)) text (at + length outputs) whole =
          c.xor_blocks.ensures (stream_from e t) whole (stream_from-cons e t outputs c.batches.invariant.size known)
          (rw (incremented-1 t) (c.batches.invariant.walked whole walked)) in
          rw after
          (elim (cases_lt here BATCH_BLOCKS) [
            | inl fewer ↦
                walk_over (stream_from e t (length outputs)) (stream_from e t BATCH_BLOCKS) text whole (at + length outputs) next refl refl
                (omega arith) (omega arith) now
            | inr full ↦
                let place : at + length outputs ≡ next = omega arith in
                let counter : length outputs ≡ BATCH_BLOCKS = omega arith in
                let P : ℕ → ℕ → Type 0 = λ n i. Walked (stream_from e t n) text i whole in
                subst (λ (i : ℕ). P BATCH_BLOCKS i) place (subst (λ (n : ℕ). P n (at + length outputs)) counter now)
          ]);
    }

pub returns : goal.returns
returns c =
    let e : List ℕ → List ℕ = encipher c.args.key.now in
    let text : List ℕ = c.args.text.now in
    let whole : List ℕ = concat (gctr e (inc32 c.args.before.now) (blocks text)) in
    walk_end (gctr e (inc32 c.batches.counter)) c.batches.text whole (BATCH_BLOCKS * c.batches.b)
    refl (omega arith) (c.batches.invariant.walked whole refl)
