-- Computed at each byte.
use Rattle.std.proofs.Common.{inl, arith}
use Rattle.mbj_aes_lanes.proofs.WideUnmixing.{twice-byte}
use Rattle.mbj_aes_lanes.proofs.wide.unmixing.xtime.Goals as goal

pub looked_up-reduction-requires : goal.looked_up-reduction-requires
looked_up-reduction-requires g c i h =
    rw (c.shr.ensures i h) (inl (omega (arith, g.met.V.Lane8.fits c.args.x i)))

pub returns : goal.returns
returns g c i h =
    rw (c.xored.ensures i h, c.shl.ensures i h, c.looked_up-reduction.ensures i h, c.shr.ensures i h)
    (twice-byte (g.V.Lane8.lane c.args.x i) (g.met.V.Lane8.fits c.args.x i))
