use Rattle.std.proofs.Common.{◌∙◌, bit_xor, ap₂, w32}
use Rattle.mbj_types.proofs.LaneRotations.{rotated_left}
use Rattle.mbj_sha1_lanes.proofs.rounds.rotated_left.Goals as goal

pub returns : goal.returns
returns g c i h =
    c.xored.ensures i h ∙ ap₂ bit_xor (c.shl.ensures i h) (c.shr.ensures i h)
    ∙ rotated_left w32 (g.V.Lane32.lane c.args.x i) c.args.by (g.met.V.Lane32.fits c.args.x i) c.requires.above c.requires.below
