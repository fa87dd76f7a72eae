use Rattle.std.proofs.Common.{refl}
use Rattle.mbj_aes.proofs.BlockWords.{placed_may, placed_at, in_either}
use Rattle.mbj_aes.proofs.register.U8x32BlockWord.placed.Goals as goal

pub swizzle : goal.swizzle
swizzle c =
    placed_may 32 2 refl c.args.places.now c.both.result c.both.ensures.size c.requires
    (in_either c.both.result c.args.places.now c.both.ensures.first c.both.ensures.second)

pub returns : goal.returns
returns c =
    placed_at 32 2 refl c.args.places.now c.both.result c.both.ensures.size c.requires
    (in_either c.both.result c.args.places.now c.both.ensures.first c.both.ensures.second) c.args.self
