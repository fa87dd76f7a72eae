-- A message that isn't empty has a round for each block.
use Rattle.std.proofs.Common.{rules}
use Rattle.mbj_cmac.proofs.entry.rounds.Goals as goal

pub returns-else-len-eq0 : goal.returns-else-len-eq0
returns-else-len-eq0 c = search rules
