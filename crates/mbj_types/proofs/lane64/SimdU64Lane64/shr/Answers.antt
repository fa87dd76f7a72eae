use Rattle.std.proofs.Common.{w64, arith}
use Rattle.std.proofs.lemmas.Simd.{shifts_fit_splat}
use Rattle.mbj_types.proofs.Vectors.{shr_at}
use Rattle.mbj_types.proofs.lane64.SimdU64Lane64.shr.Goals as goal

pub overflow_shr-result : goal.overflow_shr-result
overflow_shr-result g c = shifts_fit_splat 64 c.args.self g.row.N c.args.by c.requires

pub returns : goal.returns
returns g c i h = shr_at w64 c.args.self g.row.N c.args.by i c.fits-self.0 c.fits-self.1 (omega arith)
