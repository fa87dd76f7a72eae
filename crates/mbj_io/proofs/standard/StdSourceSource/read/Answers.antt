use Rattle.std.proofs.Common.{arith}
use Rattle.mbj_io.proofs.standard.StdSourceSource.read.Goals as goal

pub returns-in-Err-clause-failed : goal.returns-in-Err-clause-failed
returns-in-Err-clause-failed g c = grind arith

pub returns-in-Err-clause-once : goal.returns-in-Err-clause-once
returns-in-Err-clause-once g c = grind arith
