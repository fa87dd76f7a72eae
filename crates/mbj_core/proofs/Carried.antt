-- Lists of cells with their results, as hands are: the cell that leaves, and how many there can be.
use Rattle.std.proofs.Common.{◌≡◌, ◌≢◌, ℕ, zero, suc, ◌<◌, Bool, true, false, not, ◌||◌, cond, eqb, List, [], ◌∷◌, map, length, sym, refl, ap, ◌∙◌, subst, arith, eq-eqb, ne_eqb, ◌⊎◌, inl, inr, ⊎_elim}
use Rattle.std.specs.Prelude.{Some, slice_get}
use Rattle.std.specs.List.{filter, list_any, IsDistinct, AllByRecursion}
use Rattle.std.proofs.lemmas.Bool.{eqb-true}
use Rattle.std.proofs.lemmas.Option.{none-some, same_Some}
use Rattle.std.proofs.lemmas.Map.Keys.{IsDistinct-cons}
use Rattle.std.proofs.lemmas.Map.Steps.{length-le_from_distinct_below}
use mathlib.Core.Logic.{dite}
use native.Mathlib.Decide.{ℕ_discrete}
use Rattle.mbj_core.specs.Events.{Leaves}

either : (a b : Bool) → (a || b) ≡ true → (a ≡ true) ⊎ (b ≡ true)
either true b e = inl refl
either false b e = inr e

module _ {D : Type 0} where
  abbrev pub cells_of : List (ℕ × D) → List ℕ
  cells_of l = map (λ e. e.0) l

  -- no two entries have the same cell
  abbrev pub Once : List (ℕ × D) → Type 0
  Once l = (k m i : ℕ) (d e : D) → slice_get l k ≡ Some (i, d) → slice_get l m ≡ Some (i, e) → k ≡ m

  pub cell_at : (l : List (ℕ × D)) (k i : ℕ) (d : D) → slice_get l k ≡ Some (i, d) → slice_get (cells_of l) k ≡ Some i
  cell_at [] k i d e = absurd (none-some (i, d) e)
  cell_at (x ∷ l) zero i d e = ap (λ (z : ℕ × D). Some z.0) (same_Some x (i, d) e)
  cell_at (x ∷ l) (suc k) i d e = cell_at l k i d e

  pub entry_at : (l : List (ℕ × D)) (k i : ℕ) → slice_get (cells_of l) k ≡ Some i → (d : D) × (slice_get l k ≡ Some (i, d))
  entry_at [] k i e = absurd (none-some i e)
  entry_at (x ∷ l) zero i e = (x.1, ap (λ (j : ℕ). Some (j, x.1)) (same_Some x.0 i e))
  entry_at (x ∷ l) (suc k) i e = entry_at l k i e

  pub found : (l : List (ℕ × D)) (k i : ℕ) (d : D) → slice_get l k ≡ Some (i, d) → list_any (eqb i) (cells_of l) ≡ true
  found [] k i d e = absurd (none-some (i, d) e)
  found (x ∷ l) zero i d e = ap (λ (b : Bool). b || list_any (eqb i) (cells_of l)) (eq-eqb i x.0 (ap (λ (z : ℕ × D). z.0) (sym (same_Some x (i, d) e))))
  found (x ∷ l) (suc k) i d e = ap (λ (b : Bool). eqb i x.0 || b) (found l k i d e) ∙ or_true (eqb i x.0)
    where
      or_true : (b : Bool) → (b || true) ≡ true
      or_true true = refl
      or_true false = refl

  pub find : (l : List (ℕ × D)) (i : ℕ) → list_any (eqb i) (cells_of l) ≡ true → (k : ℕ) × (d : D) × (slice_get l k ≡ Some (i, d))
  find [] i e = absurd cc
  find (x ∷ l) i e = ⊎_elim (λ h. (zero, x.1, ap (λ (j : ℕ). Some (j, x.1)) (sym (eqb-true i x.0 h)))) (λ h. let r = find l i h in (suc r.0, r.1, r.2)) (either (eqb i x.0) (list_any (eqb i) (cells_of l)) e)

  once_in : (x : ℕ × D) (l : List (ℕ × D)) → Once (x ∷ l) → Once l
  once_in x l once k m i d e a b = let z : suc k ≡ suc m = once (suc k) (suc m) i d e a b in omega (arith, z)

  first_only : (x : ℕ × D) (l : List (ℕ × D)) → Once (x ∷ l) → (k : ℕ) (d : D) → slice_get l k ≢ Some (x.0, d)
  first_only x l once k d e = let z : suc k ≡ zero = once (suc k) zero x.0 d x.1 e refl in omega (arith, z)

  -- the list of cells without the cell i, which it doesn't have
  filter_all : (l : List (ℕ × D)) (i : ℕ) → ((k : ℕ) (d : D) → slice_get l k ≢ Some (i, d)) → filter (λ j. not (eqb j i)) (cells_of l) ≡ cells_of l
  filter_all [] i lacks = refl
  filter_all (x ∷ l) i lacks = ap (λ (b : Bool). cond (not b) (x.0 ∷ filter (λ j. not (eqb j i)) (cells_of l)) (filter (λ j. not (eqb j i)) (cells_of l)))
      (ne_eqb x.0 i (λ e. lacks zero x.1 (ap (λ (j : ℕ). Some (j, x.1)) e))) ∙ ap (λ (t : List ℕ). x.0 ∷ t) (filter_all l i (λ k. lacks (suc k)))

  -- the cell i leaves the list; which of its entries, and what is left
  pub leaving : (l : List (ℕ × D)) (i : ℕ) → Once l → list_any (eqb i) (cells_of l) ≡ true
      → (d : D) × (rest : List (ℕ × D)) × Leaves l i d rest × (cells_of rest ≡ filter (λ j. not (eqb j i)) (cells_of l)) × ((k : ℕ) × (slice_get l k ≡ Some (i, d)))
  leaving [] i once e = absurd cc
  leaving (x ∷ l) i once e = dite (ℕ_discrete x.0 i)
      (λ same. (
        x.1,
        l,
        ([], l, ap (λ (j : ℕ). (j, x.1) ∷ l) same, refl),
        sym (ap (λ (b : Bool). cond (not b) (x.0 ∷ filter (λ j. not (eqb j i)) (cells_of l)) (filter (λ j. not (eqb j i)) (cells_of l))) (eq-eqb x.0 i same)
            ∙ filter_all l i (λ k d at. first_only x l once k d (at ∙ ap (λ (j : ℕ). Some (j, d)) (sym same)))),
        (zero, ap (λ (j : ℕ). Some (j, x.1)) same),
      ))
      (λ other. let tail : list_any (eqb i) (cells_of l) ≡ true = sym (ap (λ (b : Bool). b || list_any (eqb i) (cells_of l)) (ne_eqb i x.0 (λ e. other (sym e)))) ∙ e in
      let r = leaving l i (once_in x l once) tail in (
        r.0,
        x ∷ r.1,
        (x ∷ r.2.0, r.2.1, ap (λ (t : List (ℕ × D)). x ∷ t) r.2.2, ap (λ (t : List (ℕ × D)). x ∷ t) r.2.3),
        ap (λ (t : List ℕ). x.0 ∷ t) r.3
            ∙ sym (ap (λ (b : Bool). cond (not b) (x.0 ∷ filter (λ j. not (eqb j i)) (cells_of l)) (filter (λ j. not (eqb j i)) (cells_of l))) (ne_eqb x.0 i other)),
        (suc r.4.0, r.4.1),
      ))

  apart : (l : List (ℕ × D)) (i : ℕ) → ((k : ℕ) (d : D) → slice_get l k ≢ Some (i, d)) → AllByRecursion (λ j. eqb i j ≡ false) (cells_of l)
  apart [] i lacks = tt
  apart (x ∷ l) i lacks = (ne_eqb i x.0 (λ e. lacks zero x.1 (ap (λ (j : ℕ). Some (j, x.1)) (sym e))), apart l i (λ k. lacks (suc k)))

  distinct : (l : List (ℕ × D)) → Once l → IsDistinct eqb (cells_of l)
  unfolding IsDistinct
  distinct [] once = tt
  distinct (x ∷ l) once = (apart l x.0 (first_only x l once), distinct l (once_in x l once))

  -- a list of cells below n that lacks one of them is shorter than n
  pub room : (l : List (ℕ × D)) (i n : ℕ) → Once l → ((k j : ℕ) (d : D) → slice_get l k ≡ Some (j, d) → j < n) → ((k : ℕ) (d : D) → slice_get l k ≢ Some (i, d)) → i < n → length (cells_of l) < n
  room l i n once below lacks near =
      let h = length-le_from_distinct_below (i ∷ cells_of l) n (IsDistinct-cons eqb i (cells_of l) (apart l i lacks) (distinct l once))
      (λ q e. ⊎_elim (λ s. subst (λ (j : ℕ). j < n) (sym (eqb-true q i s)) near) (λ s. let r = find l q s in below r.0 q r.1 r.2) (either (eqb q i) (list_any (eqb q) (cells_of l)) e)) in
      omega (arith, h)
