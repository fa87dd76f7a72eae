use Rattle.std.proofs.Common.{ℕ, ◌+◌, ◌*◌, ◌-◌, ◌%◌, ◌<◌, bit_xor, refl, sym, ap, ap₂, ◌∙◌}
use Rattle.mbj_aes.specs.BlockWords.{block_byte}
use Rattle.mbj_aes.specs.Tower.{inv_sub_of}
use Rattle.mbj_aes.proofs.BlockWords.{within}
use Rattle.mbj_aes.proofs.DecryptionCases.{inv_sub_of-boxed}
use Rattle.mbj_aes_lanes.specs.declared.narrow.layouts.TheConstants.{PLACES}
use Rattle.mbj_aes_lanes.specs.Inside.Layouts.{place}
use Rattle.mbj_aes_lanes.proofs.LayoutPlaces.{place-lt, place-none, place-back, listed}
use Rattle.mbj_aes_lanes.proofs.InverseRounds.{inverse_key_is}
use Rattle.mbj_aes_lanes.proofs.narrow.laid_keys.inverse_key_between.Goals as goal

pub returns : goal.returns
unfolding place
returns g c b h =
    let B = block_byte g.V.Lane8.lane in
    let small = λ (x : g.row.V.Denot) (j : ℕ). g.met.V.Lane8.fits x (16 * b + j) in
    let r : ℕ = c.args.r in
    let key : ℕ → ℕ = B c.args.key b in
    let boxed = c.in_decryption-boxed.result in
    let of = c.inverse_multiples.result in
    let e = c.inverse_multiples.ensures in
    let at : (j : ℕ) → j < 16 → 16 * b + j < g.V.Lane8.LANES = λ j k. within g.V.Lane8.LANES g.V.BlockWord.BLOCKS b j g.met.V.BlockWord.whole h k in
    inverse_key_is (B boxed b) (B of.nine b) (B of.eleven b) (B of.thirteen b) (B of.fourteen b) (B c.in_decryption.result b)
    (small of.nine) (small of.eleven) (small of.thirteen) (small of.fourteen) (small c.in_decryption.result)
    (λ j k. e.nine (16 * b + j) (at j k)) (λ j k. e.eleven (16 * b + j) (at j k))
    (λ j k. e.thirteen (16 * b + j) (at j k)) (λ j k. e.fourteen (16 * b + j) (at j k))
    0 (B c.inv_mixed.result b) (λ j k. c.inv_mixed.ensures b j h k)
    key (small c.args.key)
    (λ j k. ap (λ p. inv_sub_of (B boxed b p)) (place-none j k)
    ∙ inv_sub_of-boxed (key j) (B boxed b j) (small c.args.key j)
    (c.in_decryption-boxed.ensures (16 * b + j) (at j k) ∙ c.xored.ensures (16 * b + j) (at j k)
    ∙ ap₂ bit_xor (c.substituted.ensures (16 * b + j) (at j k)) (c.splat-constant.ensures (16 * b + j) (at j k))))
    (λ j k. c.in_decryption.ensures (16 * b + j) (at j k) ∙ c.splat-constant.ensures (16 * b + j) (at j k))
    r (B c.placed.result b) (λ j k.
    c.placed.ensures b (place r j) h (place-lt r j)
    ∙ ap (B c.inv_mixed.result b) (listed PLACES (4 - r % 4) (place r j) (place-lt r j) refl ∙ place-back r j k ∙ sym (place-none j k)))
