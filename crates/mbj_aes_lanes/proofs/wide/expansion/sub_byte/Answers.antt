-- The constant is added in the tower's basis.
use Rattle.std.proofs.Common.{ℕ, bit_xor, ap, ap₂, ◌∙◌, arith}
use Rattle.mbj_types.specs.Aes.{sub_byte}
use Rattle.mbj_aes.specs.declared.tables.TheConstants.{SBOX_CONSTANT}
use Rattle.mbj_aes.specs.Tower.{from_tower}
use Rattle.mbj_aes.proofs.Sums.{xor_twice}
use Rattle.mbj_aes.proofs.TowerCases.{from_tower-xor}
use Rattle.mbj_aes_lanes.specs.declared.wide.key_states.TheConstants.{SBOX_CONSTANT_IN_TOWER}
use Rattle.mbj_aes_lanes.proofs.TowerWords.{from_tower-constant}
use Rattle.mbj_aes_lanes.proofs.wide.expansion.sub_byte.Goals as goal

pub returns : goal.returns
returns g c i h =
    let once : ℕ = g.V.Lane8.lane c.substituted_in_tower.result.once i in
    ap from_tower (c.xored.ensures i h ∙ ap (bit_xor once) (c.splat.ensures i h))
    ∙ from_tower-xor once SBOX_CONSTANT_IN_TOWER (g.met.V.Lane8.fits c.substituted_in_tower.result.once i) (omega arith)
    ∙ ap₂ bit_xor (c.substituted_in_tower.ensures.once i h) from_tower-constant
    ∙ xor_twice (sub_byte (from_tower (g.V.Lane8.lane c.args.x i))) SBOX_CONSTANT
