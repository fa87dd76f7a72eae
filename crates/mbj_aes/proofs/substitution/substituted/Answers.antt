use Rattle.std.proofs.Common.{ℕ, bit_xor, ap, ap₂, ◌∙◌}
use Rattle.mbj_types.specs.Aes.{sub_byte}
use Rattle.mbj_aes.specs.declared.tables.TheConstants.{SBOX_CONSTANT}
use Rattle.mbj_aes.specs.Tower.{from_tower, bare_sub_byte}
use Rattle.mbj_aes.proofs.Sums.{xor_twice}
use Rattle.mbj_aes.proofs.TowerCases.{from_tower-to_tower}
use Rattle.mbj_aes.proofs.substitution.substituted.Goals as goal

pub returns : goal.returns
returns g c i h =
    let x : ℕ = g.V.Lane8.lane c.args.x i in
    c.xored.ensures i h
    ∙ ap₂ bit_xor
    (c.substituted_from_tower-bare.ensures i h
    ∙ ap (λ z. bare_sub_byte (from_tower z)) (c.by_halves.ensures i h)
    ∙ ap bare_sub_byte (from_tower-to_tower x (g.met.V.Lane8.fits c.args.x i)))
    (c.splat.ensures i h)
    ∙ xor_twice (sub_byte x) SBOX_CONSTANT
