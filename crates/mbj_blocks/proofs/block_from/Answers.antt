-- The bytes are copied from where the block stands.
use Rattle.std.proofs.Common.{rules}
use Rattle.mbj_blocks.proofs.block_from.Goals as goal

pub returns : goal.returns
returns c = search rules
