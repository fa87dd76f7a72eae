use Rattle.std.proofs.Common.{arith}
use Rattle.mbj_hmac.specs.Laws.Stored32.{sha1_whole}
use Rattle.mbj_hmac.proofs.sha1_lanes.Sha1LanesLaneHash.digest_bits.Goals as goal

pub returns : goal.returns
returns c s = rw c.in-Sha1.is (omega (arith, sha1_whole s 5))
