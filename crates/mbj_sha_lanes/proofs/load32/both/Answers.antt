use Rattle.std.proofs.Common.{◌++◌, arith}
use Rattle.std.proofs.lemmas.List.{length-append}
use Rattle.std.proofs.lemmas.Simd.{pick_l_whole}
use Rattle.mbj_sha_lanes.proofs.load32.both.Goals as goal

pub returns : goal.returns
returns c = pick_l_whole 0 (c.args.low ++ c.args.high) 16 (omega (arith, length-append c.args.low c.args.high, c.fits-low.0, c.fits-high.0))
