use Rattle.mbj_aes.proofs.TowerCases.{sub_from_tower}
use Rattle.mbj_aes.proofs.substitution.substituted_from_tower.Goals as goal

pub returns : goal.returns
returns g c i h =
    rw (c.by_quotients.ensures i h, c.quotients_of.ensures.first i h, c.quotients_of.ensures.second i h)
    (sub_from_tower (g.V.Lane8.lane c.args.x i) (g.met.V.Lane8.fits c.args.x i))
