use Rattle.std.proofs.Common.{arith}
use Rattle.mbj_io.proofs.memory.MemSinkSink.write.Goals as goal

pub returns-clause-bytes : goal.returns-clause-bytes
returns-clause-bytes c = grind arith

pub returns-clause-taken : goal.returns-clause-taken
returns-clause-taken c = grind arith
