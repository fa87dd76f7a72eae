use Rattle.mbj_aes.proofs.DecryptionCases.{inv_sub_plain}
use Rattle.mbj_aes.proofs.inverse_substitution.inverse_from_decryption.Goals as goal

pub returns : goal.returns
returns g c i h =
    rw (c.by_quotients.ensures i h, c.quotients_of.ensures.first i h, c.quotients_of.ensures.second i h)
    (inv_sub_plain (g.V.Lane8.lane c.args.x i) (g.met.V.Lane8.fits c.args.x i))
