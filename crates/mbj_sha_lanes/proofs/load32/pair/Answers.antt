use Rattle.std.proofs.Common.{arith}
use Rattle.mbj_sha_lanes.proofs.Loading32.{loaded}
use Rattle.mbj_sha_lanes.proofs.load32.pair.Goals as goal

pub returns-clause-words : goal.returns-clause-words
returns-clause-words c = loaded c.args.low.now c.args.high.now c.args.at (omega arith) (omega arith) c.type_inv.low c.type_inv.high
