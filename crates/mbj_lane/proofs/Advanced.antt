-- What rounds do to each entry of a list.
use Rattle.std.proofs.Common.{◌≡◌, ℕ, ◌+◌, ◌-◌, ◌≤◌, ◌<◌, suc, List, [], ◌∷◌, ◌++◌, length, map, take, drop, get_or, refl, ap, ap₂, arith}
use Rattle.mbj_lane.specs.Rounds.{after, end_of}
use Rattle.mbj_lane.specs.Laws.{after-after, rest-after, end-after}

-- a list that was advanced in its place
pub written-back : {A : Type 0} (f : A → A) (n : ℕ) (xs ys zs : List A) → n ≡ length xs → zs ≡ xs → ys ≡ map f zs
    → take n (ys ++ drop (length ys) xs) ≡ map f xs
written-back f n xs ys zs all same is = rw (all, is, same) (whole f xs)
  where
    whole : {A : Type 0} (f : A → A) (xs : List A) → take (length xs) (map f xs ++ drop (length (map f xs)) xs) ≡ map f xs
    whole f [] = refl
    whole f (x ∷ xs) = ap (λ zs. f x ∷ zs) (whole f xs)

module _ {E : Type 0} (round : E → E) where
  -- a round behind m rounds
  pub after-one_more : (m : ℕ) (e : E) → round (after round m e) ≡ after round (m + 1) e
  after-one_more m e = after-after round m 1 e

module _ {E : Type 0} (round : E → E) (rest : E → ℕ) (falls : (e : E) → rest (round e) ≡ rest e - 1) where
  -- all rests fall by m
  pub map-rests : (m : ℕ) (es : List E) → map rest (map (after round m) es) ≡ map (λ e. rest e - m) es
  map-rests m [] = refl
  map-rests m (e ∷ es) = ap₂ (λ x xs. x ∷ xs) (rest-after round rest falls m e) (map-rests m es)

  -- all ends stay
  pub map-ends : (m : ℕ) (es : List E) → ((k : ℕ) (d : E) → k < length es → m ≤ rest (get_or es k d))
      → map (end_of round rest) (map (after round m) es) ≡ map (end_of round rest) es
  map-ends m [] h = refl
  map-ends m (e ∷ es) h =
      ap₂ (λ x xs. x ∷ xs) (end-after round rest falls m e (h 0 e (omega arith)))
      (map-ends m es (λ k d l. h (suc k) d (omega arith)))
