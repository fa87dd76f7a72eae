use Rattle.std.proofs.Common.{refl}
use Rattle.mbj_gen.proofs.generator.Generator.new.Goals as goal

pub returns : goal.returns
returns c = refl
