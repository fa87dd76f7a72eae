use Rattle.std.proofs.Common.{arith}
use Rattle.mbj_gen.specs.Generator.{bare}
use Rattle.mbj_gen.proofs.generator.draw_bare.Goals as goal

pub returns-clause-value : goal.returns-clause-value
unfolding bare
returns-clause-value c = grind arith
