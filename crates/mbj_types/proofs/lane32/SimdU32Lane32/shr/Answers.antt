use Rattle.std.proofs.Common.{w32, arith}
use Rattle.std.proofs.lemmas.Simd.{shifts_fit_splat}
use Rattle.mbj_types.proofs.Vectors.{shr_at}
use Rattle.mbj_types.proofs.lane32.SimdU32Lane32.shr.Goals as goal

pub overflow_shr-result : goal.overflow_shr-result
overflow_shr-result g c = shifts_fit_splat 32 c.args.self g.row.N c.args.by c.requires

pub returns : goal.returns
returns g c i h = shr_at w32 c.args.self g.row.N c.args.by i c.fits-self.0 c.fits-self.1 (omega arith)
