use Rattle.std.proofs.Common.{arith}
use Rattle.mbj_core.proofs.laws.a_cell_is_emptied_after_a_result.Goals as goal

pub returns : goal.returns
returns c submitters workers s f none emptying law = let some = law.emptied s emptying in absurd (omega arith)
