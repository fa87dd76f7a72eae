-- A list of which the first i elements were changed, as a loop over entries leaves it.
use Rattle.std.proofs.Common.{◌≡◌, ℕ, ◌≤◌, ◌<◌, zero, suc, List, [], ◌∷◌, length, map, get_or, set, refl, ap, arith}

abbrev pub halfway : {A : Type 0} → (A → A) → ℕ → List A → List A
halfway f zero xs = xs
halfway f (suc i) [] = []
halfway f (suc i) (x ∷ xs) = f x ∷ halfway f i xs

module _ {A : Type 0} (f : A → A) where
  pub get_or-halfway : (i k : ℕ) (xs : List A) (d : A) → i ≤ k → get_or (halfway f i xs) k d ≡ get_or xs k d
  get_or-halfway zero k xs d h = refl
  get_or-halfway (suc i) zero xs d h = absurd (omega arith)
  get_or-halfway (suc i) (suc k) [] d h = refl
  get_or-halfway (suc i) (suc k) (x ∷ xs) d h = let h' : i ≤ k = omega arith in get_or-halfway i k xs d h'

  pub set-halfway : (i : ℕ) (xs : List A) (d : A) → i < length xs → set (halfway f i xs) i (f (get_or xs i d)) ≡ halfway f (suc i) xs
  set-halfway i [] d h = absurd (omega arith)
  set-halfway zero (x ∷ xs) d h = refl
  set-halfway (suc i) (x ∷ xs) d h = let h' : i < length xs = omega arith in ap (λ ys. f x ∷ ys) (set-halfway i xs d h')

  pub halfway-all : (i : ℕ) (xs : List A) → length xs ≤ i → halfway f i xs ≡ map f xs
  halfway-all zero [] h = refl
  halfway-all (suc i) [] h = refl
  halfway-all zero (x ∷ xs) h = absurd (omega arith)
  halfway-all (suc i) (x ∷ xs) h = let h' : length xs ≤ i = omega arith in ap (λ ys. f x ∷ ys) (halfway-all i xs h')
