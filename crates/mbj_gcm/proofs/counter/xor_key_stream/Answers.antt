-- The first blocks take the outputs of the first batch, and the rest follows.
use Rattle.std.proofs.Common.{◌≡◌, ℕ, ◌+◌, ◌-◌, ◌<◌, List, [], length, take, drop, get_or, inl, inr, refl, subst, ap, ◌∙◌, arith, length-drop}
use Rattle.std.specs.List.{concat}
use Rattle.std.proofs.lemmas.Bool.{cases_lt}
use Rattle.std.proofs.lemmas.List.{get_or-take, get_or-drop, length-take-le}
use Rattle.mbj_types.specs.Aes.{encipher}
use Rattle.mbj_types.specs.Blocks.{blocks}
use Rattle.mbj_types.specs.Gcm.{inc32, gctr}
use Rattle.mbj_blocks.specs.Walked.{Walked}
use Rattle.mbj_blocks.proofs.Walk.{walk_over}
use Rattle.mbj_gcm.specs.Incremented.{incremented}
use Rattle.mbj_gcm.proofs.IncrementedCounters.{incremented-1, inc32-incremented, stream_from, stream_from-cons}
use Rattle.mbj_gcm.proofs.counter.xor_key_stream.Goals as goal

pub returns : goal.returns
returns c =
    let e : List ℕ → List ℕ = encipher c.args.key.now in
    let t : List ℕ = c.args.pre_counter.now in
    let text : List ℕ = c.args.text.now in
    let now : List ℕ = c.xor_blocks.new.text in
    let all : List (List ℕ) = c.args.outputs.now in
    let here : ℕ = c.min-many.result in
    let n : ℕ = here + 2 - 2 in
    let outputs : List (List ℕ) = take n (drop 2 all) in
    let many : length outputs ≡ here = length-take-le n (drop 2 all) (omega (arith, length-drop 2 all)) ∙ omega arith in
    let known : (j : ℕ) → j < length outputs → get_or outputs j [] ≡ e (incremented t (j + 1)) = λ j lt.
    let place : 2 + j ≡ j + 2 = omega arith in
    get_or-take n (drop 2 all) j [] (omega arith)
    ∙ get_or-drop 2 all j []
    ∙ ap (λ (k : ℕ). get_or all k []) place
    ∙ c.requires.stream j (omega arith) (omega arith) in
    let whole : List ℕ = concat (gctr e (inc32 t) (blocks text)) in
    let walked : Walked (stream_from e t (length outputs)) now (0 + length outputs) whole =
    c.xor_blocks.ensures (stream_from e t) whole (stream_from-cons e t outputs c.told-pre_counter known)
    (ap (λ k. concat (gctr e k (blocks text))) (incremented-1 t)) in
    let after : inc32 c.incremented.result ≡ incremented t 3 = ap inc32 c.incremented.ensures ∙ inc32-incremented t 2 c.told-pre_counter in
    c.xor_from.ensures whole
    (rw after
    (elim (cases_lt here 2) [
      | inl fewer ↦
          walk_over (stream_from e t (length outputs)) (stream_from e t 2) now whole (0 + length outputs) here refl refl
          (omega (arith, c.xor_blocks.auto.text)) (omega (arith, c.xor_blocks.auto.text)) walked
      | inr full ↦
          let place : 0 + length outputs ≡ here = omega arith in
          let next : length outputs ≡ 2 = omega arith in
          let P : ℕ → ℕ → Type 0 = λ k i. Walked (stream_from e t k) now i whole in
          subst (λ (i : ℕ). P 2 i) place (subst (λ (k : ℕ). P k (0 + length outputs)) next walked)
    ]))
