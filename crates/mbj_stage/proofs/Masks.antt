-- A MAC and a mask, xored.
use Rattle.std.proofs.Common.{◌≡◌, ℕ, zero, suc, ◌≤◌, inl, inr, min, List, [], ◌∷◌, length, take, bit_xor, refl, ap, ap₂, arith}
use Rattle.std.proofs.lemmas.Bool.{cases_lt}
use Rattle.std.proofs.lemmas.List.{take_all}
use lib.Bits.{xor_comm}
use Rattle.mbj_types.specs.Blocks.{xor_lists}

-- which of two lists is xored with the other makes no difference
pub xor_lists-comm : (xs ys : List ℕ) → xor_lists xs ys ≡ xor_lists ys xs
xor_lists-comm [] [] = refl
xor_lists-comm [] (y ∷ ys) = refl
xor_lists-comm (x ∷ xs) [] = refl
xor_lists-comm (x ∷ xs) (y ∷ ys) = ap₂ (λ z zs. z ∷ zs) (xor_comm x y) (xor_lists-comm xs ys)

-- bytes past the mask's end are not xored
pub xor_lists-take : (n : ℕ) (xs ys : List ℕ) → length ys ≤ n → xor_lists (take n xs) ys ≡ xor_lists xs ys
xor_lists-take zero [] ys h = refl
xor_lists-take zero (x ∷ xs) [] h = refl
xor_lists-take zero (x ∷ xs) (y ∷ ys) h = absurd (omega arith)
xor_lists-take (suc n) [] ys h = refl
xor_lists-take (suc n) (x ∷ xs) [] h = refl
xor_lists-take (suc n) (x ∷ xs) (y ∷ ys) h = ap (λ zs. bit_xor x y ∷ zs) (xor_lists-take n xs ys (omega arith))

-- a block is xored with as many bytes as the other list has, at most 16
pub xor_lists-block : (n : ℕ) (xs ys : List ℕ) → length xs ≡ 16 → n ≡ min (length ys) 16 → xor_lists (take n xs) ys ≡ xor_lists xs ys
xor_lists-block n xs ys whole is = elim (cases_lt n (length ys)) [
  | inl more ↦ ap (λ zs. xor_lists zs ys) (take_all n xs (omega arith))
  | inr all ↦ xor_lists-take n xs ys all
]
