use Rattle.std.proofs.Common.{ℕ, arith, length-take}
use Rattle.mbj_hmac.proofs.sha512_lanes.Sha512LanesLaneHash.digest.Goals as goal

pub slice_bounds-from_slice-end : goal.slice_bounds-from_slice-end
slice_bounds-from_slice-end c = omega (arith, length-take {A = ℕ}, c.bytes_of-bytes.ensures.length)

pub from_slice-requires : goal.from_slice-requires
from_slice-requires c = omega (arith, length-take {A = ℕ}, c.bytes_of-bytes.ensures.length)
