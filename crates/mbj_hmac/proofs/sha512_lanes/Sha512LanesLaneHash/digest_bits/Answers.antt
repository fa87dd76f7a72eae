use Rattle.std.proofs.Common.{arith, length-take}
use Rattle.sha2.specs.Sha512.{digest_bytes}
use Rattle.mbj_hmac.specs.Laws.Sha512.{length-digest_bytes}
use Rattle.mbj_hmac.proofs.sha512_lanes.Sha512LanesLaneHash.digest_bits.Goals as goal

pub returns-in-Sha384 : goal.returns-in-Sha384
returns-in-Sha384 c s = rw c.in-Sha384.is (omega (arith, length-digest_bytes s 8, length-take 48 (digest_bytes s 8)))

pub returns-in-Sha512 : goal.returns-in-Sha512
returns-in-Sha512 c s = rw c.in-Sha512.is (omega (arith, length-digest_bytes s 8))
