use Rattle.std.proofs.Common.{refl}
use Rattle.sha2.specs.Sha256.{first_words}
use Rattle.mbj_hmac.proofs.sha256_lanes.Sha256LanesLaneHash.load.Goals as goal

pub returns : goal.returns
unfolding first_words
returns c = rw (c.word32.ensures, c.word32-2.ensures, c.word32-3.ensures, c.word32-4.ensures, c.word32-5.ensures, c.word32-6.ensures, c.word32-7.ensures, c.word32-8.ensures) refl
