-- The cipher comes first, and then the authentication.
use Rattle.std.proofs.Common.{rules}
use Rattle.mbj_stage.proofs.stage.ordered_steps.Goals as goal

pub returns-in-CipherHash : goal.returns-in-CipherHash
returns-in-CipherHash c = search rules
