use Rattle.mbj_aes_lanes.proofs.WideUnmixing.{mixed_byte-sum}
use Rattle.mbj_aes_lanes.proofs.wide.unmixing.mixed_byte.Goals as goal

pub returns : goal.returns
returns g c i h =
    let lane = g.V.Lane8.lane in
    rw (c.xored-4.ensures i h, c.xored-2.ensures i h, c.xored-3.ensures i h, c.xtime.ensures i h, c.xored.ensures i h)
    (mixed_byte-sum (lane c.args.a i) (lane c.args.b i) (lane c.args.c i) (lane c.args.d i) (g.met.V.Lane8.fits c.args.a i) (g.met.V.Lane8.fits c.args.b i))
