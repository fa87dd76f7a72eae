use Rattle.std.proofs.Common.{◌∙◌, bit_xor, ap₂, w64}
use Rattle.mbj_types.proofs.LaneRotations.{rotated_right}
use Rattle.mbj_sha_lanes.proofs.words.Words64Words.rotated_right.Goals as goal

pub returns : goal.returns
returns g c i h =
    c.xored.ensures i h ∙ ap₂ bit_xor (c.shl.ensures i h) (c.shr.ensures i h)
    ∙ rotated_right w64 (g.V.Lane64.lane c.args.x i) c.args.by (g.met.V.Lane64.fits c.args.x i) c.requires.above c.requires.below
