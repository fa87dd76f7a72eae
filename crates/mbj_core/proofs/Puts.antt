-- A function changed at one place.
use Rattle.std.proofs.Common.{◌≡◌, ◌≢◌, ℕ, sym, refl, subst}
use native.Mathlib.Decide.{ℕ_discrete}

module _ {A : Type 0} where
  abbrev pick : {P : Type 0} → Dec P → A → A → A
  pick (yes _) a b = a
  pick (no _) a b = b

  -- f with a at i
  pub put : (ℕ → A) → ℕ → A → ℕ → A
  put f i a j = pick (ℕ_discrete j i) a (f j)

  -- what holds of the new value at i, and of each other value, holds after
  pub at_put : (f : ℕ → A) (i : ℕ) (a : A) (F : ℕ → A → Type 0) (j : ℕ) → F i a → (j ≢ i → F j (f j)) → F j (put f i a j)
  unfolding put
  at_put f i a F j here other = go (ℕ_discrete j i)
    where
      go : (d : Dec (j ≡ i)) → F j (pick d a (f j))
      go (yes e) = subst (λ (k : ℕ). F k a) (sym e) here
      go (no n) = other n

  pub put_here : (f : ℕ → A) (i : ℕ) (a : A) → put f i a i ≡ a
  put_here f i a = at_put f i a (λ q x. q ≡ i → x ≡ a) i (λ _. refl) (λ n. absurd (n refl)) refl

  pub put_else : (f : ℕ → A) (i j : ℕ) (a : A) → j ≢ i → put f i a j ≡ f j
  put_else f i j a ne = at_put f i a (λ q x. q ≢ i → x ≡ f q) j (λ n. absurd (n refl)) (λ _ _. refl) ne
