use Rattle.std.proofs.Common.{w64}
use Rattle.mbj_hmac.proofs.Vectors.{where_equal_is}
use Rattle.mbj_hmac.proofs.lane_word.U64x8LaneWord.where_equal.Goals as goal

pub returns : goal.returns
returns c i h =
    where_equal_is w64 c.args.x c.args.y c.args.same c.args.other 8 i c.fits-x.0 c.fits-y.0 c.fits-same.0 c.fits-other.0 c.fits-x.1 c.fits-y.1 h
