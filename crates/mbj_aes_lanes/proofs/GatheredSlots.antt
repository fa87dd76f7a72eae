-- What is done to each entry after entries moved to the first slots is done to it in its own slot once they moved back.
use Rattle.std.proofs.Common.{◌≡◌, ◌≢◌, ℕ, zero, suc, ◌<◌, ◌≤◌, List, [], ◌∷◌, length, map, swap, get_or, set, inl, inr, refl, sym, subst, ap, ap₂, ◌∙◌, arith}
use Rattle.std.proofs.lemmas.Bool.{cases_eq}
use Rattle.std.proofs.lemmas.List.{get_or-map, get_or_default, length-map, same_lists}
use Rattle.std.proofs.lemmas.List.Edits.{length-swap, swapped_from_swap}
use Rattle.mbj_aes_lanes.specs.Inside.Gathered.{gathered, ungathered}

module _ {A : Type 0} where
  map-set : (g : A → A) (xs : List A) (i : ℕ) (x : A) → map g (set xs i x) ≡ set (map g xs) i (g x)
  map-set g [] zero x = refl
  map-set g [] (suc i) x = refl
  map-set g (y ∷ ys) zero x = refl
  map-set g (y ∷ ys) (suc i) x = ap (λ (l : List A). g y ∷ l) (map-set g ys i x)

  map-get : (g : A → A) (xs : List A) (i : ℕ) (d : A) → g (get_or xs i d) ≡ get_or (map g xs) i (g d)
  map-get g [] zero d = refl
  map-get g [] (suc i) d = refl
  map-get g (y ∷ ys) zero d = refl
  map-get g (y ∷ ys) (suc i) d = map-get g ys i d

  map-swap : (g : A → A) (xs : List A) (a b : ℕ) → swap (map g xs) a b ≡ map g (swap xs a b)
  map-swap g [] a b = refl
  map-swap g (d ∷ ys) a b =
      let xs : List A = d ∷ ys in
      ap₂ (λ (x y : A). set (set (map g xs) a x) b y) (sym (map-get g xs b d)) (sym (map-get g xs a d))
      ∙ ap (λ (l : List A). set l b (g (get_or xs a d))) (sym (map-set g xs a (get_or xs b d)))
      ∙ sym (map-set g (set xs a (get_or xs b d)) b (get_or xs a d))

  -- what stands in each place after a swap
  pub swapped-at : (P : ℕ → A → Type 0) (xs : List A) (a b : ℕ) (d : A) → a < length xs → b < length xs → P a (get_or xs b d) → P b (get_or xs a d)
      → (m : ℕ) → (m ≢ a → m ≢ b → P m (get_or xs m d)) → P m (get_or (swap xs a b) m d)
  swapped-at P xs a b d p q at_a at_b m others =
      let s = swapped_from_swap xs (swap xs a b) a b d p q refl in
      elim (cases_eq m a) [
        | inl is ↦ rw is (subst (P a) (sym s.0) at_a)
        | inr ne ↦ elim (cases_eq m b) [
          | inl is ↦ rw is (subst (P b) (sym s.1) at_b)
          | inr other ↦ subst (P m) (sym (s.2 m ne other)) (others ne other)
        ]
      ]

  swap-swap : (xs : List A) (a b : ℕ) → a < length xs → b < length xs → swap (swap xs a b) a b ≡ xs
  swap-swap xs a b p q =
      let ys = swap xs a b in
      let long = length-swap xs a b in
      same_lists (swap ys a b) xs (length-swap ys a b ∙ long)
      (λ m d h.
      let s = swapped_from_swap xs ys a b d p q refl in
      swapped-at (λ m x. x ≡ get_or xs m d) ys a b d (omega (arith, long)) (omega (arith, long)) s.1 s.0 m (s.2 m))

  module _ (from : ℕ → ℕ) where
    length-gathered : (n : ℕ) (es : List A) → length (gathered from n es) ≡ length es
    length-gathered zero es = refl
    length-gathered (suc n) es = length-swap (gathered from n es) n (from n) ∙ length-gathered n es

    -- what holds of each entry
    pub gathered-each : (P : A → Type 0) (d : A) (n : ℕ) (es : List A) → n ≤ length es → ((p : ℕ) → p < n → from p < length es)
        → ((i : ℕ) → i < length es → P (get_or es i d)) → (i : ℕ) → i < length es → P (get_or (gathered from n es) i d)
    gathered-each P d zero es le inside each i h = each i h
    gathered-each P d (suc n) es le inside each i h =
        let now = gathered-each P d n es (omega arith) (λ p lt. inside p (omega arith)) each in
        let long = length-gathered n es in
        let last = inside n (omega arith) in
        swapped-at (λ m. P) (gathered from n es) n (from n) d (omega (arith, long)) (omega (arith, long, last))
        (now (from n) last) (now n (omega arith)) i (λ a b. now i h)

    undone : (g : A → A) (n : ℕ) (es : List A) → n ≤ length es → ((p : ℕ) → p < n → from p < length es)
        → ungathered from n (map g (gathered from n es)) ≡ map g es
    undone g zero es le inside = refl
    undone g (suc n) es le inside =
        let before = gathered from n es in
        let long = length-gathered n es in
        ap (ungathered from n)
        (map-swap g (swap before n (from n)) n (from n)
        ∙ ap (map g) (swap-swap before n (from n) (omega (arith, long)) (omega (arith, long, inside n (omega arith)))))
        ∙ undone g n es (omega arith) (λ p lt. inside p (omega arith))

    -- each entry is changed while they stand in the first slots
    pub restored : (g : A → A) (d : A) (n : ℕ) (es now : List A) → n ≤ length es → ((p : ℕ) → p < n → from p < length es)
        → length now ≡ length es → ((i : ℕ) → i < length es → get_or now i d ≡ g (get_or (gathered from n es) i d))
        → (i : ℕ) → i < length es → get_or (ungathered from n now) i d ≡ g (get_or es i d)
    restored g d n es now le inside long each i h =
        let there = gathered from n es in
        let size = length-gathered n es in
        let all : now ≡ map g there =
        same_lists now (map g there) (long ∙ sym (length-map there g ∙ size))
        (λ m x lt.
        get_or_default now m x d lt
        ∙ each m (omega (arith, long))
        ∙ sym (get_or-map g there m d x (omega (arith, long, size)))) in
        ap (λ (l : List A). get_or (ungathered from n l) i d) all
        ∙ ap (λ (l : List A). get_or l i d) (undone g n es le inside)
        ∙ get_or-map g es i d d h

  -- numbers behind the first n don't count
  pub gathered-same : (f g : ℕ → ℕ) (n : ℕ) (es : List A) → ((p : ℕ) → p < n → f p ≡ g p) → gathered f n es ≡ gathered g n es
  gathered-same f g zero es same = refl
  gathered-same f g (suc n) es same =
      ap₂ (λ (xs : List A) (k : ℕ). swap xs n k) (gathered-same f g n es (λ p h. same p (omega arith))) (same n (omega arith))
