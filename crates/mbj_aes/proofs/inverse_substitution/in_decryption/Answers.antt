use Rattle.std.proofs.Common.{ap, ◌∙◌}
use Rattle.mbj_aes.specs.Tower.{from_decryption}
use Rattle.mbj_aes.proofs.DecryptionCases.{from_decryption-to_decryption}
use Rattle.mbj_aes.proofs.inverse_substitution.in_decryption.Goals as goal

pub returns : goal.returns
returns g c i h =
    ap from_decryption (c.by_halves.ensures i h)
    ∙ from_decryption-to_decryption (g.V.Lane8.lane c.args.x i) (g.met.V.Lane8.fits c.args.x i)
