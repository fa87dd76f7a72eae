use Rattle.std.proofs.Common.{◌≡◌, ℕ, ◌+◌, ◌*◌, ◌<◌, List, slice_index, refl, ap, arith}
use Rattle.mbj_aes.proofs.BlockWords.{placed_may, placed_at}
use Rattle.mbj_aes.proofs.register.U8x16BlockWord.placed.Goals as goal

one : (places : List ℕ) (b j : ℕ) → b < 1 → slice_index places (16 * b + j) ≡ slice_index places j
one places b j h = let here : 16 * b + j ≡ j = omega arith in ap (slice_index places) here

pub swizzle : goal.swizzle
swizzle c = placed_may 16 1 refl c.args.places.now c.args.places.now c.told-places c.requires (λ b j h k. one c.args.places.now b j h)

pub returns : goal.returns
returns c =
    placed_at 16 1 refl c.args.places.now c.args.places.now c.told-places c.requires (λ b j h k. one c.args.places.now b j h) c.args.self
