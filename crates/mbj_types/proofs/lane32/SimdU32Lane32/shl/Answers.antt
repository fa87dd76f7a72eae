use Rattle.std.proofs.Common.{arith}
use Rattle.std.proofs.lemmas.Simd.{shifts_fit_splat}
use Rattle.mbj_types.proofs.Vectors.{shl_at}
use Rattle.mbj_types.proofs.lane32.SimdU32Lane32.shl.Goals as goal

pub overflow_shl-result : goal.overflow_shl-result
overflow_shl-result g c = shifts_fit_splat 32 c.args.self g.row.N c.args.by c.requires

pub returns : goal.returns
returns g c i h = shl_at 32 c.args.self g.row.N c.args.by i c.fits-self.0 (omega arith)
