use Rattle.mbj_aes.proofs.TowerCases.{sub_in_tower, sub_twice_in_tower}
use Rattle.mbj_aes.proofs.substitution.substituted_in_tower.Goals as goal

pub returns-clause-once : goal.returns-clause-once
returns-clause-once g c i h =
    rw (c.by_quotients.ensures i h, c.quotients_of-quotients.ensures.first i h, c.quotients_of-quotients.ensures.second i h)
    (sub_in_tower (g.V.Lane8.lane c.args.x i) (g.met.V.Lane8.fits c.args.x i))

pub returns-clause-twice : goal.returns-clause-twice
returns-clause-twice g c i h =
    rw (c.by_quotients-2.ensures i h, c.quotients_of-quotients.ensures.first i h, c.quotients_of-quotients.ensures.second i h)
    (sub_twice_in_tower (g.V.Lane8.lane c.args.x i) (g.met.V.Lane8.fits c.args.x i))
