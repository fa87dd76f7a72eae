-- Single elements of a list.
use Rattle.std.proofs.Common.{◌≡◌, ℕ, zero, suc, ◌+◌, ◌<◌, ◌≤◌, List, [], ◌∷◌, ◌++◌, length, take, drop, slice_get, None, Some, refl, ap, sym, ◌∙◌, arith}

module _ {X : Type 0} where
  pub no_length : (xs : List X) → length xs ≡ 0 → xs ≡ []
  no_length [] e = refl
  no_length (x ∷ xs) e = absurd (omega arith)

  pub uncons : (xs : List X) → 0 < length xs → (y : X) × (ys : List X) × (xs ≡ y ∷ ys)
  uncons [] lt = absurd (omega arith)
  uncons (x ∷ xs) lt = (x, xs, refl)

  abbrev nothing : List X
  nothing = []

  take_none : (m : ℕ) → take m nothing ≡ nothing
  take_none zero = refl
  take_none (suc m) = refl

  -- the first n and the next m
  pub take_further : (xs : List X) (n m : ℕ) → take (n + m) xs ≡ take n xs ++ take m (drop n xs)
  take_further xs zero m = let all : 0 + m ≡ m = omega arith in ap (λ k. take k xs) all
  take_further [] (suc n) m = let more : suc n + m ≡ suc (n + m) = omega arith in ap (λ k. take k nothing) more ∙ sym (take_none m)
  take_further (x ∷ xs) (suc n) m = let more : suc n + m ≡ suc (n + m) = omega arith in ap (λ k. take k (x ∷ xs)) more ∙ ap (λ l. x ∷ l) (take_further xs n m)

  pub get_take : (xs : List X) (n i : ℕ) → i < n → slice_get (take n xs) i ≡ slice_get xs i
  get_take xs zero i lt = absurd (omega arith)
  get_take [] (suc n) i lt = refl
  get_take (x ∷ xs) (suc n) zero lt = refl
  get_take (x ∷ xs) (suc n) (suc i) lt = get_take xs n i (omega arith)

  pub get_drop : (xs : List X) (n i : ℕ) → slice_get (drop n xs) i ≡ slice_get xs (n + i)
  get_drop xs zero i = let all : i ≡ 0 + i = omega arith in ap (slice_get xs) all
  get_drop [] (suc n) i = refl
  get_drop (x ∷ xs) (suc n) i = let more : suc (n + i) ≡ suc n + i = omega arith in get_drop xs n i ∙ ap (slice_get (x ∷ xs)) more

  pub get_some : (xs : List X) (i : ℕ) → i < length xs → (x : X) × (slice_get xs i ≡ Some x)
  get_some [] i lt = absurd (omega arith)
  get_some (x ∷ xs) zero lt = (x, refl)
  get_some (x ∷ xs) (suc i) lt = get_some xs i (omega arith)

  pub none_past : (xs : List X) (n : ℕ) → slice_get xs n ≡ None → length xs ≤ n
  none_past [] n e = omega arith
  none_past (x ∷ xs) zero e = cc
  none_past (x ∷ xs) (suc n) e = omega (arith, none_past xs n e)
