-- One matrix after the other.
use Rattle.std.proofs.Common.{◌∙◌}
use Rattle.mbj_aes_lanes.proofs.WideUnmixing.{column-unmixed}
use Rattle.mbj_aes_lanes.proofs.wide.unmixing.unmixed.Goals as goal

pub returns : goal.returns
returns g c i h =
    let lane = g.V.Lane8.lane in
    let fits = g.met.V.Lane8.fits in
    let w = c.args.w in
    c.mixed_column.ensures i h
    ∙ column-unmixed (lane w.0 i) (lane w.1 i) (lane w.2 i) (lane w.3 i) _ _ _ _
    (record { first = fits w.0 i; second = fits w.1 i; third = fits w.2 i; fourth = fits w.3 i })
    (c.five_and_four.ensures i h) (c.five_and_four-2.ensures i h) (c.five_and_four-3.ensures i h) (c.five_and_four-4.ensures i h)
