use Rattle.mbj_types.proofs.Vectors.{and_at}
use Rattle.mbj_types.proofs.lane8.U8x32Lane8.anded.Goals as goal

pub returns : goal.returns
returns c i h = and_at 8 c.args.self c.args.other 32 i c.fits-self.0 c.fits-other.0 h
