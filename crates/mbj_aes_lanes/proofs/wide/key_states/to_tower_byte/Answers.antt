-- There and back.
use Rattle.std.proofs.Common.{ap, ◌∙◌}
use Rattle.mbj_aes.specs.Tower.{from_tower}
use Rattle.mbj_aes.proofs.TowerCases.{from_tower-to_tower}
use Rattle.mbj_aes_lanes.proofs.wide.key_states.to_tower_byte.Goals as goal

pub returns : goal.returns
returns g c i h =
    ap from_tower (c.by_halves.ensures i h) ∙ from_tower-to_tower (g.V.Lane8.lane c.args.x i) (g.met.V.Lane8.fits c.args.x i)
