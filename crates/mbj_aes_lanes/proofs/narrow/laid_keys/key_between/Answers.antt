use Rattle.std.proofs.Common.{ℕ, ◌+◌, ◌*◌, ◌-◌, ◌%◌, bit_xor, refl, ap, ◌∙◌}
use Rattle.mbj_aes.specs.BlockWords.{block_byte}
use Rattle.mbj_aes.specs.Tower.{from_tower}
use Rattle.mbj_aes.proofs.BlockWords.{within}
use Rattle.mbj_aes_lanes.specs.declared.narrow.layouts.TheConstants.{PLACES}
use Rattle.mbj_aes_lanes.specs.Inside.Layouts.{place}
use Rattle.mbj_aes_lanes.proofs.LayoutPlaces.{place-lt, place-back, listed}
use Rattle.mbj_aes_lanes.proofs.LayoutRounds.{key_between_is}
use Rattle.mbj_aes_lanes.proofs.narrow.laid_keys.key_between.Goals as goal

pub returns : goal.returns
unfolding place
returns g c b h =
    let B = block_byte g.V.Lane8.lane in
    let r : ℕ = c.args.r in
    key_between_is r (B c.args.key b) (B c.placed.result b) (λ j k.
    let p : ℕ = place r j in
    let at = within g.V.Lane8.LANES g.V.BlockWord.BLOCKS b j g.met.V.BlockWord.whole h k in
    ap from_tower (c.placed.ensures b p h (place-lt r j)
    ∙ ap (B c.to_tower_byte.result b) (listed PLACES (4 - r % 4) p (place-lt r j) refl ∙ place-back r j k))
    ∙ c.to_tower_byte.ensures (16 * b + j) at
    ∙ c.xored-with_constant.ensures (16 * b + j) at
    ∙ ap (bit_xor (B c.args.key b j)) (c.splat.ensures (16 * b + j) at))
