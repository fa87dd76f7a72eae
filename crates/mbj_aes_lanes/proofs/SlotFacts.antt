-- What holds of an entry holds of its lane, and what holds of all lanes holds of a list.
use Rattle.std.proofs.Common.{◌≡◌, ℕ, suc, ◌-◌, ◌<◌, ◌≤◌, List, [], ◌∷◌, length, map, slice_get, Option, Some, None, refl, subst, ap, ap₂, ◌∙◌, arith}
use Rattle.std.specs.Option.{option_map}
use Rattle.mbj_types.specs.Aes.{encipher}
use Rattle.mbj_types.specs.Blocks.{zero_block}
use Rattle.mbj_aes_lanes.specs.Inside.Slots.{HasRounds, IsKeyOf, IsCmacL}

module _ {E : Type 0} where
  pub has-rounds : (rest : E → ℕ) (m : ℕ) (o : Option E) → ((e : E) → o ≡ Some e → m ≤ rest e) → HasRounds rest m o
  has-rounds rest m None h = tt
  has-rounds rest m (Some e) h = h e refl

  pub rounds-of : (rest : E → ℕ) (m : ℕ) (o : Option E) (e : E) → HasRounds rest m o → o ≡ Some e → m ≤ rest e
  rounds-of rest m o e h is = subst (HasRounds rest m) is h

  -- the zero block under the round keys of the lane
  pub zero-of : (key : E → List ℕ) (w zero : List ℕ) (o : Option E) → IsKeyOf key w o → zero ≡ encipher w zero_block → IsCmacL key zero o
  zero-of key w zero None keyed is = tt
  zero-of key w zero (Some e) keyed is = is ∙ ap (λ k. encipher k zero_block) keyed

-- lists of at most n entries that hold the same in each of n lanes
pub same-slots : {E : Type 0} (f : E → E) (n : ℕ) (es now : List E) → length es ≤ n → length now ≤ n
    → ((i : ℕ) → i < n → slice_get now i ≡ option_map f (slice_get es i)) → now ≡ map f es
same-slots f n [] [] few many each = refl
same-slots f n [] (y ∷ ys) few many each = let h = each 0 (omega arith) in cc
same-slots f n (x ∷ xs) [] few many each = let h = each 0 (omega arith) in cc
same-slots f n (x ∷ xs) (y ∷ ys) few many each =
    let first : y ≡ f x = let h = each 0 (omega arith) in cc in
    ap₂ (λ z zs. z ∷ zs) first (same-slots f (n - 1) xs ys (omega arith) (omega arith) (λ i h. each (suc i) (omega arith)))
