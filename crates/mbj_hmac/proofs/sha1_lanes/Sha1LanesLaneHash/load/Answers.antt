use Rattle.std.proofs.Common.{refl}
use Rattle.sha1.specs.Sha1.{first_words}
use Rattle.mbj_hmac.proofs.sha1_lanes.Sha1LanesLaneHash.load.Goals as goal

pub returns : goal.returns
unfolding first_words
returns c = rw (c.word32.ensures, c.word32-2.ensures, c.word32-3.ensures, c.word32-4.ensures, c.word32-5.ensures) refl
