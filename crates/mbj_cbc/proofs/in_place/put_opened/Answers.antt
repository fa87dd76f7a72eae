-- One block more is put in each turn.
use Rattle.std.proofs.Common.{◌≡◌, List, ℕ, ◌+◌, ◌*◌, [], get_or, length, take, drop, ap, ◌∙◌, sym, refl, arith}
use Rattle.std.proofs.lemmas.List.{drop-drop}
use Rattle.mbj_types.specs.Blocks.{xor_lists}
use Rattle.mbj_types.specs.Modes.{uncbc}
use Rattle.mbj_blocks.specs.Places.{block_of}
use Rattle.mbj_blocks.proofs.Walk.{walk_step, drop-with_block}
use Rattle.mbj_cbc.proofs.in_place.put_opened.Goals as goal

pub each-init : goal.each-init
each-init c =
    let here : c.args.first + 0 ≡ c.args.first = omega arith in
    record { size = omega arith; walked = λ d whole known walked. rw here walked; left = refl }

pub each-preserved : goal.each-preserved
each-preserved c =
    let text : List ℕ = c.each.text in
    let j : ℕ = c.each.j in
    let i : ℕ = c.args.first + j in
    let next : c.args.first + (j + 1) ≡ i + 1 = omega arith in
    let behind : 16 * i + 16 ≡ 16 * (i + 1) = omega arith in
    let block : block_of text i ≡ c.block_at-ciphertext.result = sym c.block_at-ciphertext.ensures in
    let same : block_of text i ≡ block_of c.args.text.now i = ap (take 16) c.each.invariant.left in
    rw next record {
      size = omega arith;
      walked = λ d whole known walked.
          let found : get_or c.args.opened.now j [] ≡ d c.block_at-ciphertext.result =
          known j (omega arith) ∙ ap d (sym same ∙ block) in
          let opened : xor_lists (d c.block_at-ciphertext.result) c.each.chain ≡ c.xor_in_place.new.text =
          sym (c.xor_in_place.ensures ∙ ap (λ b. xor_lists b c.each.chain) found) in
          walk_step (uncbc d c.each.chain) (uncbc d c.block_at-ciphertext.result) text c.xor_in_place.new.text _ whole i (omega arith)
          (omega arith) (λ bs. rw (block, opened) refl) c.put_block.ensures (c.each.invariant.walked d whole known walked);
      left =
          drop-with_block text c.xor_in_place.new.text c.put_block.new.text i (omega arith) (omega arith) c.put_block.ensures
          ∙ ap (λ (n : ℕ). drop n text) (sym behind)
          ∙ sym (drop-drop 16 (16 * i) text)
          ∙ ap (drop 16) c.each.invariant.left
          ∙ drop-drop 16 (16 * i) c.args.text.now
          ∙ ap (λ (n : ℕ). drop n c.args.text.now) behind;
    }

pub returns : goal.returns
returns c d whole known walked =
    let all : c.args.first + c.each.j ≡ c.args.first + length c.args.opened.now = omega arith in
    rw all at (c.each.invariant.walked d whole known walked)
