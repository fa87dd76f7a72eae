use Rattle.std.proofs.Common.{refl}
use Rattle.mbj_types.proofs.Vectors.{look_up_may, table_at}
use Rattle.mbj_types.proofs.lane8.U8x32Lane8.looked_up.Goals as goal

pub swizzle : goal.swizzle
swizzle c = look_up_may 32 2 refl c.args.self c.fits-self.0 c.fits-self.1 c.requires

pub returns : goal.returns
returns c =
    table_at 32 2 refl c.args.self c.fits-self.0 c.fits-self.1 c.requires c.args.table.now c.in_each_half.result
    c.in_each_half.ensures
