use Rattle.std.proofs.Common.{refl}
use Rattle.sha1.specs.Sha1.{digest_bytes}
use Rattle.mbj_hmac.proofs.sha1_lanes.bytes_of.Goals as goal

pub returns : goal.returns
unfolding digest_bytes
returns c = rw (c.to_be_bytes.ensures, c.to_be_bytes-2.ensures, c.to_be_bytes-3.ensures, c.to_be_bytes-4.ensures, c.to_be_bytes-5.ensures) refl
