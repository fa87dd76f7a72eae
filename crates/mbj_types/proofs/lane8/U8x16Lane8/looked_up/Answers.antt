use Rattle.std.proofs.Common.{◌≡◌, ◌%◌, refl, ap, arith, slice_index}
use Rattle.mbj_types.proofs.Vectors.{look_up_may, table_at}
use Rattle.mbj_types.proofs.lane8.U8x16Lane8.looked_up.Goals as goal

pub swizzle : goal.swizzle
swizzle c = look_up_may 16 1 refl c.args.self c.fits-self.0 c.fits-self.1 c.requires

pub returns : goal.returns
returns c =
    table_at 16 1 refl c.args.self c.fits-self.0 c.fits-self.1 c.requires c.args.table.now c.args.table.now (λ i h.
    let here : i ≡ i % 16 = omega arith in
    ap (slice_index c.args.table.now) here)
