use Rattle.std.proofs.Common.{arith}
use Rattle.mbj_io.proofs.standard.StdSinkSink.write.Goals as goal

pub returns-in-Ok-clause-some : goal.returns-in-Ok-clause-some
returns-in-Ok-clause-some g c = grind arith
