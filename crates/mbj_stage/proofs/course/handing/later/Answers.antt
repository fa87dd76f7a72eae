-- Behind the first of two steps stands the second.
use Rattle.std.proofs.Common.{ap, drop, sym}
use Rattle.mbj_stage.specs.declared.stage.Steps.{Steps}
use Rattle.mbj_stage.specs.Steps.{steps_in}
use Rattle.mbj_stage.proofs.course.handing.later.Goals as goal

pub returns-in-Two : goal.returns-in-Two
returns-in-Two c = ap (λ (left : Steps). drop 1 (steps_in left)) (sym c.in-Two.is)
