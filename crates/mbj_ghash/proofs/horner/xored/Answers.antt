use Rattle.std.proofs.Common.{◌≡◌, ℕ, List, [], ◌∷◌, bit_xor, refl, ap}
use Rattle.std.specs.Simd.Lanes.{zip2}
use Rattle.mbj_types.specs.Blocks.{xor_lists}
use Rattle.mbj_ghash.proofs.horner.xored.Goals as goal

zip2-xor : (xs ys : List ℕ) → zip2 bit_xor xs ys ≡ xor_lists xs ys
zip2-xor [] ys = refl
zip2-xor (x ∷ xs) [] = refl
zip2-xor (x ∷ xs) (y ∷ ys) = ap (λ zs. bit_xor x y ∷ zs) (zip2-xor xs ys)

pub returns : goal.returns
returns c = zip2-xor c.args.a.now c.args.b.now
