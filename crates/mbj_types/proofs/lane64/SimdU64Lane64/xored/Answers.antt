use Rattle.std.proofs.Common.{arith}
use Rattle.mbj_types.proofs.Vectors.{xor_at}
use Rattle.mbj_types.proofs.lane64.SimdU64Lane64.xored.Goals as goal

pub returns : goal.returns
returns g c i h = xor_at 64 c.args.self c.args.other g.row.N i c.fits-self.0 c.fits-other.0 (omega arith)
