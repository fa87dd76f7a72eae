use Rattle.std.proofs.Common.{refl}
use Rattle.mbj_aes.proofs.MovedBytes.{taken_may, taken_at}
use Rattle.mbj_aes.proofs.moves.U8x32TakenWord.taken.Goals as goal

pub swizzle : goal.swizzle
swizzle c = taken_may 32 2 refl c.args.places c.fits-places.0 c.fits-places.1 c.requires

pub returns : goal.returns
returns c = taken_at 32 2 refl c.args.places c.fits-places.0 c.fits-places.1 c.args.self
