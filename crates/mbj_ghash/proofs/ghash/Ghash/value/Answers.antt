use Rattle.std.proofs.Common.{arith}
use Rattle.mbj_ghash.proofs.ghash.Ghash.value.Goals as goal

pub returns-clause-value : goal.returns-clause-value
returns-clause-value c = grind arith

pub returns-clause-so_far : goal.returns-clause-so_far
returns-clause-so_far c = grind arith
