-- The IV stands before the number of the block.
use Rattle.std.proofs.Common.{rules}
use Rattle.mbj_ctr.proofs.first_counter.Goals as goal

pub returns : goal.returns
returns c = search rules
