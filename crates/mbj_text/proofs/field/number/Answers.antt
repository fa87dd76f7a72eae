-- Neither a first 0 nor a sixth digit.
use Rattle.std.proofs.Common.{rules}
use Rattle.mbj_text.proofs.field.number.Goals as goal

pub returns-in_default-2 : goal.returns-in_default-2
returns-in_default-2 c = search rules
