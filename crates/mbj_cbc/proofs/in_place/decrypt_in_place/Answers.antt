-- One batch more is decrypted in each turn, and at the end all are.
use Rattle.std.proofs.Common.{◌≡◌, ℕ, ◌+◌, ◌*◌, ◌<◌, List, [], length, take, get_or, inl, inr, refl, ap, ◌∙◌, arith}
use Rattle.std.proofs.lemmas.Bool.{cases_lt}
use Rattle.std.proofs.lemmas.List.{get_or-take, length-take-le}
use Rattle.mbj_aes_lanes.specs.declared.narrow.by_fours.TheConstants.{BATCH_BLOCKS}
use Rattle.mbj_types.specs.Aes.{decipher}
use Rattle.mbj_types.specs.Modes.{uncbc, uncbc_text}
use Rattle.mbj_blocks.specs.Places.{block_of}
use Rattle.mbj_blocks.specs.Walked.{Walked}
use Rattle.mbj_blocks.proofs.Walk.{walk_end, walk_over}
use Rattle.mbj_cbc.proofs.in_place.decrypt_in_place.Goals as goal

pub batches-preserved : goal.batches-preserved
batches-preserved c =
    let d : List ℕ → List ℕ = decipher c.args.key.now in
    let b : ℕ = c.batches.b in
    let here : ℕ = c.min-here.result in
    let whole : List ℕ = uncbc_text d c.args.iv.now c.args.text.now in
    let all : List (List ℕ) = c.opened_blocks-opened.result in
    let opened : List (List ℕ) = take here all in
    let many : length opened ≡ here = length-take-le here all (omega (arith, c.opened_blocks-opened.ensures.length)) in
    let known : (j : ℕ) → j < length opened → get_or opened j [] ≡ d (block_of c.batches.text (BATCH_BLOCKS * b + j)) = λ j lt.
    get_or-take here all j [] (omega arith)
    ∙ c.opened_blocks-opened.ensures.opened j (omega arith)
    ∙ ap (λ w. decipher w (block_of c.batches.text (BATCH_BLOCKS * b + j))) c.new-key.ensures in
    let text : List ℕ = c.put_opened-chain.new.text in
    let rest = uncbc d c.put_opened-chain.result in
    let now : Walked rest text (BATCH_BLOCKS * b + length opened) whole =
    c.put_opened-chain.ensures d whole known c.batches.invariant in
    elim (cases_lt here BATCH_BLOCKS) [
      | inl fewer ↦
          walk_over rest rest text whole (BATCH_BLOCKS * b + length opened) (BATCH_BLOCKS * (b + 1)) refl refl (omega arith) (omega arith) now
      | inr all ↦
          let next : BATCH_BLOCKS * b + length opened ≡ BATCH_BLOCKS * (b + 1) = omega arith in
          rw next at now
    ]

pub returns : goal.returns
returns c =
    walk_end (uncbc (decipher c.args.key.now) c.batches.chain) c.batches.text _ (BATCH_BLOCKS * c.batches.b) refl (omega arith)
    c.batches.invariant
