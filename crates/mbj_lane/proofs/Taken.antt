-- Which entry is taken.
use Rattle.std.proofs.Common.{◌≡◌, ℕ, ◌≤◌, ◌<◌, zero, suc, List, [], ◌∷◌, ◌++◌, length, take, drop, get_or, Some, None, eqb, false, refl, ap, ◌∙◌, ◌+◌, below_more, arith}
use Rattle.std.specs.Option.{option_map}
use Rattle.std.specs.List.{remove}
use Rattle.std.proofs.lemmas.List.{get_or_default}
use Rattle.std.proofs.lemmas.Bool.{ne_eqb}
use Rattle.mbj_lane.specs.Rounds.{IsFirst, taken}

module _ {E : Type 0} (rest : E → ℕ) where
  -- an entry with a round left is passed over
  passed : (e : E) (es : List E) → 1 ≤ rest e → taken rest (e ∷ es) ≡ option_map (λ t. (t.0, e ∷ t.1)) (taken rest es)
  passed e es h = let apart : eqb (rest e) 0 ≡ false = ne_eqb (rest e) 0 (λ z. omega (arith, z)) in rw apart refl

  at_place : (es : List E) (i : ℕ) (e : E) → i < length es → ((k : ℕ) (d : E) → k < i → 1 ≤ rest (get_or es k d))
      → e ≡ get_or es i e → rest e ≡ 0 → taken rest es ≡ Some (e, take i es ++ drop (suc i) es)
  at_place [] i e lt before is z = absurd (omega arith)
  at_place (x ∷ es) zero e lt before is z = rw (← is, z) refl
  at_place (x ∷ es) (suc i) e lt before is z =
      let lt' : i < length es = omega arith in
      passed x es (before 0 e (omega arith))
      ∙ ap (option_map (λ t. (t.0, x ∷ t.1))) (at_place es i e lt' (λ k d l. before (suc k) d (omega arith)) is z)

  pub taken-at : (es : List E) (i : ℕ) (e : E) → IsFirst rest i es → e ≡ get_or es i e → taken rest es ≡ Some (e, remove es i)
  taken-at es i e first is = at_place es i e first.inside first.before is (ap rest is ∙ first.done e)

  -- no entry, if each has a round left
  pub taken-none : (es : List E) → ((k : ℕ) (d : E) → k < length es → 1 ≤ rest (get_or es k d)) → taken rest es ≡ None
  taken-none [] all = refl
  taken-none (x ∷ es) all =
      passed x es (all 0 x (omega arith))
      ∙ ap (option_map (λ t. (t.0, x ∷ t.1))) (taken-none es (λ k d l. all (suc k) d (omega arith)))

  -- each entry up to place i has a round left, if those before it have one, and e, the entry there
  pub passed-too : (es : List E) (i : ℕ) (e : E) → i < length es → ((k : ℕ) (d : E) → k < i → 1 ≤ rest (get_or es k d))
      → e ≡ get_or es i e → (rest e ≡ 0 → ⊥) → (k : ℕ) (d : E) → k < i + 1 → 1 ≤ rest (get_or es k d)
  passed-too es i e lt before is some k d l =
      let left : 1 ≤ rest (get_or es i d) = rw (get_or_default es i d e lt, ← is) (omega (arith, some)) in
      below_more (λ n. 1 ≤ rest (get_or es n d)) i (λ n below. before n d below) left k l
