-- Entries of a list by their index: one more at the end, and one that leaves.
use Rattle.std.proofs.Common.{◌≡◌, ◌≢◌, ℕ, zero, suc, ◌<◌, List, [], ◌∷◌, ◌++◌, length, set, sym, ◌∙◌, refl, ap, arith, ⊎_elim, ◌⊎◌, inl, inr}
use Rattle.std.specs.Prelude.{Some, slice_get}
use Rattle.std.proofs.lemmas.Option.{none-some, same_Some}

module _ {A : Type 0} where
  pub at_end : (l : List A) (a b : A) (j : ℕ) → slice_get (l ++ a ∷ []) j ≡ Some b → (slice_get l j ≡ Some b) ⊎ ((j ≡ length l) × (a ≡ b))
  at_end [] a b zero e = inr (refl, same_Some a b e)
  at_end [] a b (suc j) e = absurd (none-some b e)
  at_end (x ∷ xs) a b zero e = inl e
  at_end (x ∷ xs) a b (suc j) e = ⊎_elim (λ h. inl h) (λ h. inr (ap suc h.0, h.1)) (at_end xs a b j e)

  pub at_longer : (l m : List A) (i : ℕ) (a : A) → slice_get l i ≡ Some a → slice_get (l ++ m) i ≡ Some a
  at_longer [] m i a e = absurd (none-some a e)
  at_longer (x ∷ xs) m zero a e = e
  at_longer (x ∷ xs) m (suc i) a e = at_longer xs m i a e

  pub at_index : (l : List A) (i : ℕ) → i < length l → (a : A) × (slice_get l i ≡ Some a)
  at_index [] i h = absurd (omega arith)
  at_index (x ∷ xs) zero h = (x, refl)
  at_index (x ∷ xs) (suc i) h = at_index xs i (omega arith)

  pub at_left : (l m : List A) (i : ℕ) → i < length l → slice_get (l ++ m) i ≡ slice_get l i
  at_left [] m i h = absurd (omega arith)
  at_left (x ∷ xs) m zero h = refl
  at_left (x ∷ xs) m (suc i) h = at_left xs m i (omega arith)

  pub set_here : (l : List A) (i : ℕ) (a : A) → i < length l → slice_get (set l i a) i ≡ Some a
  set_here [] i a h = absurd (omega arith)
  set_here (x ∷ xs) zero a h = refl
  set_here (x ∷ xs) (suc i) a h = set_here xs i a (omega arith)

  pub set_else : (l : List A) (i j : ℕ) (a : A) → j ≢ i → slice_get (set l i a) j ≡ slice_get l j
  set_else [] i j a n = refl
  set_else (x ∷ xs) zero zero a n = absurd (n refl)
  set_else (x ∷ xs) zero (suc j) a n = refl
  set_else (x ∷ xs) (suc i) zero a n = refl
  set_else (x ∷ xs) (suc i) (suc j) a n = set_else xs i j a (λ e. n (ap suc e))

  -- the entry between two lists
  pub at_middle : (before after : List A) (x : A) → slice_get (before ++ x ∷ after) (length before) ≡ Some x
  at_middle [] after x = refl
  at_middle (b ∷ before) after x = at_middle before after x

  -- where an entry of before ++ after stands once there is one more between them
  abbrev pub skip : List A → ℕ → ℕ
  skip [] k = suc k
  skip (b ∷ before) zero = zero
  skip (b ∷ before) (suc k) = suc (skip before k)

  pub at_skip : (before after : List A) (x : A) (k : ℕ) → slice_get (before ++ x ∷ after) (skip before k) ≡ slice_get (before ++ after) k
  at_skip [] after x k = refl
  at_skip (b ∷ before) after x zero = refl
  at_skip (b ∷ before) after x (suc k) = at_skip before after x k

  -- an entry of what is left stands in the whole list
  pub in_whole : (whole left before after : List A) (x y : A) (k : ℕ) → whole ≡ before ++ x ∷ after → left ≡ before ++ after → slice_get left k ≡ Some y → slice_get whole (skip before k) ≡ Some y
  in_whole whole left before after x y k is_whole is_left at =
      ap (λ (l : List A). slice_get l (skip before k)) is_whole ∙ (at_skip before after x k ∙ (sym (ap (λ (l : List A). slice_get l k) is_left) ∙ at))

  pub skip_apart : (before : List A) (k l : ℕ) → skip before k ≡ skip before l → k ≡ l
  skip_apart [] k l e = omega arith
  skip_apart (b ∷ before) zero zero e = refl
  skip_apart (b ∷ before) zero (suc l) e = absurd (omega arith)
  skip_apart (b ∷ before) (suc k) zero e = absurd (omega arith)
  skip_apart (b ∷ before) (suc k) (suc l) e = ap suc (skip_apart before k l (omega arith))

  pub skip_misses : (before : List A) (k : ℕ) → skip before k ≢ length before
  skip_misses [] k e = omega arith
  skip_misses (b ∷ before) zero e = omega arith
  skip_misses (b ∷ before) (suc k) e = skip_misses before k (omega arith)

  -- an entry is the one between, or stays when that leaves
  pub stays : (before after : List A) (x y : A) (l : ℕ) → slice_get (before ++ x ∷ after) l ≡ Some y → (x ≡ y) ⊎ ((k : ℕ) × (slice_get (before ++ after) k ≡ Some y))
  stays [] after x y zero e = inl (same_Some x y e)
  stays [] after x y (suc l) e = inr (l, e)
  stays (b ∷ before) after x y zero e = inr (zero, e)
  stays (b ∷ before) after x y (suc l) e = ⊎_elim (λ h. inl h) (λ h. inr (suc h.0, h.1)) (stays before after x y l e)
