-- The front is what is taken.
use Rattle.std.proofs.Common.{arith}
use Rattle.std.proofs.lemmas.List.{take_all}
use Rattle.mbj_stage.proofs.tag.cut.Goals as goal

pub returns : goal.returns
returns c = grind (arith, take_all)
