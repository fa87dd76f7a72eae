-- The tag is over the ciphertext.
use Rattle.std.proofs.Common.{List, ℕ, length, ap, ◌∙◌}
use Rattle.std.specs.List.{concat}
use Rattle.mbj_types.specs.Aes.{encipher}
use Rattle.mbj_types.specs.Blocks.{blocks}
use Rattle.mbj_types.specs.Gcm.{gcm_tag, gcm_text, gctr, inc32}
use Rattle.mbj_gcm.proofs.Tags.{tag-first}
use Rattle.mbj_gcm.proofs.in_place.seal.Goals as goal

pub returns-clause-tag : goal.returns-clause-tag
returns-clause-tag c =
    let k : List ℕ = c.new-key.result in
    let w : List ℕ = c.args.key.now in
    let iv : List ℕ = c.args.iv.now in
    let aad : List ℕ = c.args.aad.now in
    let text : List ℕ = c.args.text.now in
    let t : List ℕ = c.pre_counter_block-pre_counter.result in
    c.tag.ensures
    ∙ tag-first k w t iv aad c.xor_key_stream.new.text (length text) c.first_batch-outputs.result c.new-key.ensures
    c.pre_counter_block-pre_counter.ensures c.first_batch-outputs.ensures
    ∙ ap (gcm_tag (encipher w) iv aad)
    (c.xor_key_stream.ensures
    ∙ ap (λ (j : List ℕ). concat (gctr (encipher k) (inc32 j) (blocks text))) c.pre_counter_block-pre_counter.ensures
    ∙ ap (λ v. gcm_text (encipher v) iv text) c.new-key.ensures)
