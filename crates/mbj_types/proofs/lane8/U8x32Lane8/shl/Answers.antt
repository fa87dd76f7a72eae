use Rattle.mbj_types.proofs.Vectors.{shl_at}
use Rattle.mbj_types.proofs.lane8.U8x32Lane8.shl.Goals as goal

pub returns : goal.returns
returns c i h = shl_at 8 c.args.self 32 c.args.by i c.fits-self.0 h
