use Rattle.mbj_aes.proofs.FieldProducts.{spread_is}
use Rattle.mbj_aes_lanes.proofs.wide.unmixing.five_and_four.Goals as goal

pub returns : goal.returns
returns g c i h =
    let lane = g.V.Lane8.lane in
    rw (c.xored-2.ensures i h, c.xtime-2.ensures i h, c.xtime.ensures i h, c.xored.ensures i h)
    (spread_is (lane c.args.a i) (lane c.args.b i) (g.met.V.Lane8.fits c.args.a i) (g.met.V.Lane8.fits c.args.b i))
