-- The cipher range is replaced by its other text, and the mask joins what stands in the tag's place.
use Rattle.std.proofs.Common.{◌≡◌, ◌∙◌, ◌+◌, ◌-◌, List, ℕ, length, take, drop, refl, ap, ap₂, arith}
use Rattle.mbj_types.specs.Aes.{aes, encipher}
use Rattle.mbj_types.specs.Ccm.{ccm_mask, ccm_text}
use Rattle.mbj_types.specs.declared.job.Job.{Job}
use Rattle.mbj_types.specs.declared.job.Cipher.TheVariants as cipher
use Rattle.mbj_stage.specs.CourseState.{with_mask}
use Rattle.mbj_stage.proofs.EntryEnds.{ccm-accepted}
use Rattle.mbj_stage.proofs.Schedules.{enciphers}
use Rattle.mbj_stage.proofs.Packets.{ciphered-range}
use Rattle.mbj_stage.proofs.ccm.run.Goals as goal

pub slice_bounds-apply_and_mask-end : goal.slice_bounds-apply_and_mask-end
slice_bounds-apply_and_mask-end c =
    omega (arith, (ccm-accepted c.args.job.now (length c.args.packet.now) c.requires.accepted c.requires.ccm).range)

pub returns-clause-packet : goal.returns-clause-packet
returns-clause-packet c =
    let j : Job = c.args.job.now in
    let range : List ℕ = take (j.cipher_off + j.cipher_len - j.cipher_off) (drop j.cipher_off c.args.packet.now) in
    let key_is : encipher c.args.key.now ≡ aes j.key = enciphers j.key c.args.key.now c.requires.key in
    ciphered-range cipher.Ccm j c.args.packet.now c.apply_and_mask-mask.new.text c.requires.ccm refl
    (c.apply_and_mask-mask.ensures.text ∙ ap₂ (λ (e : List ℕ → List ℕ) (iv : List ℕ). ccm_text e iv range) key_is c.as_slice.ensures)

pub returns-clause-tag : goal.returns-clause-tag
returns-clause-tag c =
    let j : Job = c.args.job.now in
    let key_is : encipher c.args.key.now ≡ aes j.key = enciphers j.key c.args.key.now c.requires.key in
    c.with_mask.ensures
    ∙ ap (λ (mask : List ℕ). with_mask j.tag_len mask j.dir c.args.tag.now)
    (c.apply_and_mask-mask.ensures.mask ∙ ap₂ (λ (e : List ℕ → List ℕ) (iv : List ℕ). ccm_mask e iv) key_is c.as_slice.ensures)
