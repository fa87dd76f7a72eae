-- The least of the rests.
use Rattle.std.proofs.Common.{◌≡◌, ◌∙◌, ℕ, ◌+◌, ◌≤◌, ◌<◌, min, zero, suc, List, [], ◌∷◌, length, drop, get_or, sym, ap, arith}
use Rattle.std.proofs.Math.ListN.{drop_of_length-le}
use Rattle.std.proofs.lemmas.List.{drop_more}
use Rattle.mbj_lane.specs.Rounds.{least_from, least}

module _ {E : Type 0} (rest : E → ℕ) where
  pub least_from-le : (n : ℕ) (es : List E) → least_from rest n es ≤ n
  least_from-le n [] = omega arith
  least_from-le n (e ∷ es) = omega (arith, least_from-le (min n (rest e)) es)

  pub least_from-at : (n : ℕ) (es : List E) (k : ℕ) (d : E) → k < length es → least_from rest n es ≤ rest (get_or es k d)
  least_from-at n [] k d h = absurd (omega arith)
  least_from-at n (e ∷ es) zero d h = omega (arith, least_from-le (min n (rest e)) es)
  least_from-at n (e ∷ es) (suc k) d h = let h' : k < length es = omega arith in least_from-at (min n (rest e)) es k d h'

  -- no rest is less than the least
  pub least-at : (es : List E) (k : ℕ) (d : E) → k < length es → least rest es ≤ rest (get_or es k d)
  least-at [] k d h = absurd (omega arith)
  least-at (e ∷ es) zero d h = least_from-le (rest e) es
  least-at (e ∷ es) (suc k) d h = let h' : k < length es = omega arith in least_from-at (rest e) es k d h'

  -- once all entries were looked at
  pub least-end : (m i : ℕ) (es : List E) → length es ≤ i → least_from rest m (drop i es) ≡ least rest es → m ≡ least rest es
  least-end m i es h e = let z : drop i es ≡ [] = drop_of_length-le es h in rw z at e

  -- once the entry at place i was looked at, too
  pub least-next : (n m i : ℕ) (es : List E) (e : E) → i < length es → e ≡ get_or es i e → m ≡ min n (rest e)
      → least_from rest n (drop i es) ≡ least rest es → least_from rest m (drop (i + 1) es) ≡ least rest es
  least-next n m i es e h is less before =
      ap (λ (k : ℕ). least_from rest k (drop (i + 1) es)) (less ∙ ap (λ x. min n (rest x)) is) ∙ sym (ap (least_from rest n) (drop_more es i e h)) ∙ before
