use Rattle.std.proofs.Common.{w64}
use Rattle.mbj_hmac.proofs.Vectors.{written}
use Rattle.mbj_hmac.proofs.rests.with_word64.Goals as goal

pub returns : goal.returns
returns c j h = written w64 c.args.words 8 c.args.i j c.args.word c.fits-words.0 h c.ranges.word.fits
