use Rattle.std.proofs.Common.{◌∙◌}
use Rattle.mbj_core.proofs.cells.Slot.hold.Goals as goal

pub returns-in_default : goal.returns-in_default
returns-in_default c = let was = c.replace.ensures.value in (λ job e. c.in_default.not-Ready job (was ∙ e), c.put-in_default.ensures ∙ was)
