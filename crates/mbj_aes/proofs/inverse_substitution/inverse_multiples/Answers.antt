use Rattle.mbj_aes.proofs.DecryptionCases.{inv_sub_nine, inv_sub_eleven, inv_sub_thirteen, inv_sub_fourteen}
use Rattle.mbj_aes.proofs.inverse_substitution.inverse_multiples.Goals as goal

pub returns-clause-nine : goal.returns-clause-nine
returns-clause-nine g c i h =
    rw (c.by_quotients.ensures i h, c.quotients_of-quotients.ensures.first i h, c.quotients_of-quotients.ensures.second i h)
    (inv_sub_nine (g.V.Lane8.lane c.args.x i) (g.met.V.Lane8.fits c.args.x i))

pub returns-clause-eleven : goal.returns-clause-eleven
returns-clause-eleven g c i h =
    rw (c.by_quotients-2.ensures i h, c.quotients_of-quotients.ensures.first i h, c.quotients_of-quotients.ensures.second i h)
    (inv_sub_eleven (g.V.Lane8.lane c.args.x i) (g.met.V.Lane8.fits c.args.x i))

pub returns-clause-thirteen : goal.returns-clause-thirteen
returns-clause-thirteen g c i h =
    rw (c.by_quotients-3.ensures i h, c.quotients_of-quotients.ensures.first i h, c.quotients_of-quotients.ensures.second i h)
    (inv_sub_thirteen (g.V.Lane8.lane c.args.x i) (g.met.V.Lane8.fits c.args.x i))

pub returns-clause-fourteen : goal.returns-clause-fourteen
returns-clause-fourteen g c i h =
    rw (c.by_quotients-4.ensures i h, c.quotients_of-quotients.ensures.first i h, c.quotients_of-quotients.ensures.second i h)
    (inv_sub_fourteen (g.V.Lane8.lane c.args.x i) (g.met.V.Lane8.fits c.args.x i))
