-- An open cell that is filled: one of those that are open, or one more.
use Rattle.std.proofs.Common.{◌≡◌, ◌∙◌, ◌++◌, ◌+◌, ◌-◌, ◌<◌, ◌≤◌, ℕ, List, [], ◌∷◌, add-one, ap, arith, drop, length, length-append, set, sym, take, ⊎_elim}
use Rattle.std.proofs.lemmas.List.{length-take-le, set_split}
use Rattle.mbj_c.specs.Filling.{put_at}

module _ {A : Type 0} where
  -- one that is put over another takes its place
  pub put_over : (i : ℕ) (x : A) (xs : List A) → i < length xs → set xs i x ≡ put_at i x xs
  put_over i x xs below = set_split xs i x below ∙ ap (λ (k : ℕ). take i xs ++ x ∷ drop k xs) (sym (add-one i))

  pub put_more : (i : ℕ) (x : A) (xs : List A) → i ≤ length xs → i + 1 ≤ length (put_at i x xs)
  put_more i x xs within = omega (arith, length-append (take i xs) (x ∷ drop (i + 1) xs), length-take-le i xs within)
