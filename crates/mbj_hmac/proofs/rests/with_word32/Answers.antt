use Rattle.std.proofs.Common.{w32}
use Rattle.mbj_hmac.proofs.Vectors.{written}
use Rattle.mbj_hmac.proofs.rests.with_word32.Goals as goal

pub returns : goal.returns
returns c j h = written w32 c.args.words 16 c.args.i j c.args.word c.fits-words.0 h c.ranges.word.fits
