-- Byte by byte.
use Rattle.std.proofs.Common.{[], ◌∷◌, ap, ◌∙◌}
use Rattle.mbj_aes.specs.Tower.{from_tower}
use Rattle.mbj_aes.proofs.TowerCases.{from_tower-xor}
use Rattle.mbj_aes_lanes.proofs.wide.state.xor_words.Goals as goal

pub returns-clause-tower : goal.returns-clause-tower
returns-clause-tower g c i h =
    let a = c.args.a in
    let b = c.args.b in
    let at = λ (x y : _). from_tower-xor (g.V.Lane8.lane x i) (g.V.Lane8.lane y i) (g.met.V.Lane8.fits x i) (g.met.V.Lane8.fits y i) in
    let b0 = ap from_tower (c.xored.ensures i h) ∙ at a.0 b.0 in
    let b1 = ap from_tower (c.xored-2.ensures i h) ∙ at a.1 b.1 in
    let b2 = ap from_tower (c.xored-3.ensures i h) ∙ at a.2 b.2 in
    let b3 = ap from_tower (c.xored-4.ensures i h) ∙ at a.3 b.3 in
    λ j. b0 j ∷ b1 j ∷ b2 j ∷ b3 j ∷ []
