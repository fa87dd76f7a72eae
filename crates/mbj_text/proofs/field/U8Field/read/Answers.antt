-- A number that fits a byte is one below 256.
use Rattle.std.proofs.Common.{rules}
use Rattle.mbj_text.proofs.field.U8Field.read.Goals as goal

pub returns : goal.returns
returns c = search rules
