use Rattle.std.proofs.Common.{refl}
use Rattle.sha2.specs.Sha512.{first_words}
use Rattle.mbj_hmac.proofs.sha512_lanes.Sha512LanesLaneHash.load.Goals as goal

pub returns : goal.returns
unfolding first_words
returns c = rw (c.word64.ensures, c.word64-2.ensures, c.word64-3.ensures, c.word64-4.ensures, c.word64-5.ensures, c.word64-6.ensures, c.word64-7.ensures, c.word64-8.ensures) refl
