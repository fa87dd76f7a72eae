-- CBC encrypts in lanes.
use Rattle.std.proofs.Common.{rules}
use Rattle.mbj_stage.proofs.stage.cipher_stage.Goals as goal

pub returns-in-Enc : goal.returns-in-Enc
returns-in-Enc c = search rules
