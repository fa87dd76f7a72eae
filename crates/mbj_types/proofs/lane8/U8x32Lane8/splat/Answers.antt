use Rattle.std.proofs.Common.{arith}
use Rattle.mbj_types.proofs.Vectors.{replicate_at}
use Rattle.mbj_types.proofs.lane8.U8x32Lane8.splat.Goals as goal

pub returns : goal.returns
returns c i h = replicate_at 8 32 c.args.word i (omega arith) h
