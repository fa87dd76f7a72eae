use Rattle.std.proofs.Common.{w8}
use Rattle.mbj_types.proofs.Vectors.{shr_at}
use Rattle.mbj_types.proofs.lane8.U8x32Lane8.shr.Goals as goal

pub returns : goal.returns
returns c i h = shr_at w8 c.args.self 32 c.args.by i c.fits-self.0 c.fits-self.1 h
