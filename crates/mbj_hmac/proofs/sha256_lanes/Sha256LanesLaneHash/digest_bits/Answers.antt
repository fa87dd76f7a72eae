use Rattle.std.proofs.Common.{arith, length-take}
use Rattle.sha2.specs.Sha256.{digest_bytes}
use Rattle.mbj_hmac.specs.Laws.Stored32.{sha256_whole}
use Rattle.mbj_hmac.proofs.sha256_lanes.Sha256LanesLaneHash.digest_bits.Goals as goal

pub returns-in-Sha224 : goal.returns-in-Sha224
returns-in-Sha224 c s = rw c.in-Sha224.is (omega (arith, sha256_whole s 8, length-take 28 (digest_bytes s 8)))

pub returns-in-Sha256 : goal.returns-in-Sha256
returns-in-Sha256 c s = rw c.in-Sha256.is (omega (arith, sha256_whole s 8))
