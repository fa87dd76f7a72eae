-- The field that was just taken is the fault.
use Rattle.std.proofs.Common.{rules}
use Rattle.mbj_text.proofs.fields.Fields.read_below.Goals as goal

pub returns-clause-value : goal.returns-clause-value
returns-clause-value c = search rules
