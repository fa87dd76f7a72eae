-- How lists read from a place on, and cells that begin with values, follow a write, a read and a step of the place.
use Rattle.std.proofs.Common.{◌≡◌, ℕ, zero, suc, ◌+◌, ◌-◌, ◌%◌, ◌<◌, ◌≤◌, ◌⊎◌, List, [], ◌∷◌, ◌++◌, map, length, take, drop, set, replicate, get_or, slice_get, Option, Some, None, refl, sym, ap, ◌∙◌, inl, inr, arith, append_assoc, append-nil, length-append, length-drop, length-set, take_all, get_or-drop, get_or-take, drop-set-lt, mod-eq_of_lt, ext_get_or}
use Rattle.std.proofs.lemmas.List.{drop-set-add, take-set-le, set-append_left, set-append_right, get_or_append_left, get_or-append_right, drop_more, take_more, drop_all, map-append, map-set, length-map, length-replicate, replicate-append-replicate}
use Rattle.std.proofs.Math.Seq.{take-set-lt, set-append_seam}
use Rattle.std.proofs.Math.Nat.{add-mod_left}
use Rattle.mbj_ring.specs.Inside.Laid.{from_on, present, filled}

pub below_or_not : (i n : ℕ) → (i < n) ⊎ (n ≤ i)
below_or_not i zero = inr (omega arith)
below_or_not zero (suc n) = inl (omega arith)
below_or_not (suc i) (suc n) = elim (below_or_not i n) [ inl lt ↦ inl (omega arith) | inr le ↦ inr (omega arith) ]

-- q is the place i after p, among n places
abbrev pub Wraps : ℕ → ℕ → ℕ → ℕ → Type 0
Wraps p i n q = (q < n) × ((q ≡ p + i) ⊎ (q + n ≡ p + i))

pub wraps : (p i n : ℕ) → p < n → i < n → Wraps p i n ((p + i) % n)
wraps p i n pn ni = elim (below_or_not (p + i) n) [
  | inl lt ↦ let is : (p + i) % n ≡ p + i = mod-eq_of_lt lt in (omega arith, inl is)
  | inr le ↦ let k = p + i - n in let sum : p + i ≡ n + k = omega arith in
      let is : (p + i) % n ≡ k = ap (λ j. j % n) sum ∙ add-mod_left n k ∙ mod-eq_of_lt (omega arith) in (omega arith, inr (omega arith))
]

-- a list of n elements, read from the place p on
module _ {X : Type 0} (xs : List X) (n p : ℕ) (long : length xs ≡ n) (pn : p < n) where
  pub from_on-set : (i q : ℕ) (x : X) → i < n → Wraps p i n q → from_on p (set xs q x) ≡ set (from_on p xs) i x
  from_on-set i q x ni w = let qn = w.0 in let rest = length-drop p xs in elim w.1 [
    | inl e ↦ ap (λ k. from_on p (set xs k x)) e ∙ (λ j. drop-set-add p xs i x j ++ take-set-le p xs (p + i) x (omega arith) j)
        ∙ sym (set-append_left (drop p xs) (take p xs) i x (omega arith))
    | inr e ↦ let back : i - (n - p) ≡ q = omega arith in
        (λ j. drop-set-lt p xs q x (omega arith) j ++ take-set-lt p xs q x (omega arith) j)
        ∙ sym (set-append_right (drop p xs) (take p xs) (n - p) i x (omega arith) (omega arith) ∙ ap (λ k. drop p xs ++ set (take p xs) k x) back)
  ]

  pub from_on-get : (i q : ℕ) (d : X) → i < n → Wraps p i n q → get_or (from_on p xs) i d ≡ get_or xs q d
  from_on-get i q d ni w = let qn = w.0 in let rest = length-drop p xs in elim w.1 [
    | inl e ↦ get_or_append_left (drop p xs) (take p xs) d i (omega arith) ∙ get_or-drop p xs i d ∙ ap (λ k. get_or xs k d) (sym e)
    | inr e ↦ let back : i - (n - p) ≡ q = omega arith in
        get_or-append_right (drop p xs) (take p xs) (n - p) i d (omega arith) (omega arith) ∙ ap (λ k. get_or (take p xs) k d) back ∙ get_or-take p xs q d (omega arith)
  ]

  -- one place on, the list has its first element last
  pub from_on-step : (q : ℕ) (d : X) → Wraps p 1 n q → from_on q xs ≡ drop 1 (from_on p xs) ++ take 1 (from_on p xs)
  from_on-step q d w =
      let x = get_or xs p d in let within : p < length xs = omega arith in
      let turned : from_on (p + 1) xs ≡ drop 1 (from_on p xs) ++ take 1 (from_on p xs) =
      ap (λ l. drop (p + 1) xs ++ l) (take_more xs p d within) ∙ sym (append_assoc (drop (p + 1) xs) (take p xs) (x ∷ []))
      ∙ ap (λ l. drop 1 (l ++ take p xs) ++ take 1 (l ++ take p xs)) (sym (drop_more xs p d within)) in
      elim w.1 [
        | inl e ↦ ap (λ k. from_on k xs) e ∙ turned
        | inr e ↦ let end : length xs ≤ p + 1 = omega arith in let none : q ≡ 0 = omega (arith, w.0) in
            ap (λ k. from_on k xs) none ∙ append-nil xs ∙ sym (λ j. drop_all (p + 1) xs end j ++ take_all (p + 1) xs end j) ∙ turned
      ]

module _ {X : Type 0} where
  abbrev some : X → Option X
  some x = Some x

  abbrev empty : ℕ → List (Option X)
  empty k = replicate k None

  present_none : (k : ℕ) → present (empty k) ≡ []
  present_none zero = refl
  present_none (suc k) = present_none k

  present_all : (xs : List X) (k : ℕ) → present (map some xs ++ empty k) ≡ xs
  present_all [] k = present_none k
  present_all (x ∷ xs) k = ap (λ l. x ∷ l) (present_all xs k)

  pub present-filled : (xs : List X) (n : ℕ) → present (filled xs n) ≡ xs
  unfolding filled
  present-filled xs n = present_all xs (n - length xs)

  get_none : (k i : ℕ) → get_or (empty k) i None ≡ None
  get_none zero i = refl
  get_none (suc k) zero = refl
  get_none (suc k) (suc i) = get_none k i

  get_all : (xs : List X) (k i : ℕ) → get_or (map some xs ++ empty k) i None ≡ slice_get xs i
  get_all [] k i = get_none k i
  get_all (x ∷ xs) k zero = refl
  get_all (x ∷ xs) k (suc i) = get_all xs k i

  pub get-filled : (xs : List X) (n i : ℕ) → get_or (filled xs n) i None ≡ slice_get xs i
  unfolding filled
  get-filled xs n i = get_all xs (n - length xs) i

  -- a value is written after the last one
  pub filled-more : (xs : List X) (n : ℕ) (x : X) → length xs < n → set (filled xs n) (length xs) (Some x) ≡ filled (xs ++ x ∷ []) n
  unfolding filled
  filled-more xs n x room =
      let k = n - length xs - 1 in let left : n - length xs ≡ suc k = omega arith in let long = length-map xs some in
      let after : n - length (xs ++ x ∷ []) ≡ k = omega (arith, length-append xs (x ∷ [])) in
      ap (λ j. set (map some xs ++ empty j) (length xs) (Some x)) left ∙ ap (λ j. set (map some xs ++ empty (suc k)) j (Some x)) (sym long)
      ∙ set-append_seam (map some xs) None (empty k) (Some x) ∙ sym (append_assoc (map some xs) (Some x ∷ []) (empty k))
      ∙ ap (λ l. l ++ empty k) (sym (map-append some xs (x ∷ []))) ∙ ap (λ j. map some (xs ++ x ∷ []) ++ empty j) (sym after)

  -- a value is written over
  pub filled-set : (xs : List X) (n i : ℕ) (x : X) → i < length xs → set (filled xs n) i (Some x) ≡ filled (set xs i x) n
  unfolding filled
  filled-set xs n i x within =
      let long = length-map xs some in set-append_left (map some xs) (empty (n - length xs)) i (Some x) (omega arith)
      ∙ ap (λ l. l ++ empty (n - length xs)) (sym (map-set some xs i x)) ∙ ap (λ j. map some (set xs i x) ++ empty (n - j)) (sym (length-set xs i x))

  -- the first value is taken out, and the cells are read from the next one on
  pub filled-less : (x : X) (xs : List X) (n : ℕ) → length (x ∷ xs) ≤ n → let cs = set (filled (x ∷ xs) n) 0 None in drop 1 cs ++ take 1 cs ≡ filled xs n
  unfolding filled
  filled-less x xs n fits =
      let k = n - length (x ∷ xs) in let more : k + 1 ≡ n - length xs = omega arith in
      append_assoc (map some xs) (empty k) (empty 1) ∙ ap (λ l. map some xs ++ l) (replicate-append-replicate k 1 None) ∙ ap (λ j. map some xs ++ empty j) more

  -- cells that read as empty ones from a place on are empty
  pub all_empty : (cs : List (Option X)) (n p : ℕ) → length cs ≡ n → p < n → from_on p cs ≡ filled [] n → cs ≡ replicate n None
  all_empty cs n p long pn e =
      ext_get_or None cs (empty n) (long ∙ sym (length-replicate n None)) (λ q lt.
      let back : (i : ℕ) × (i < n) × Wraps p i n q = elim (below_or_not q p) [
        | inl before ↦ (q + n - p, omega arith, (omega arith, inr (omega arith)))
        | inr after ↦ (q - p, omega arith, (omega arith, inl (omega arith)))
      ] in
      sym (from_on-get cs n p long pn back.0 q None back.1 back.2) ∙ ap (λ l. get_or l back.0 None) e ∙ get-filled [] n back.0 ∙ sym (get_none n q))

  -- and empty cells read so
  pub from_start_empty : (n : ℕ) → from_on {X = Option X} 0 (empty n) ≡ filled [] n
  unfolding filled
  from_start_empty n = let all : n - 0 ≡ n = omega arith in append-nil (empty n) ∙ ap empty (sym all)

-- the number of a place leads back to the place
pub number_place : (n p q : ℕ) → p < n → q < n → ((n + q - p) % n < n) × ((p + (n + q - p) % n) % n ≡ q)
number_place n p q pn qn = elim (below_or_not q p) [
  | inl before ↦ let is : (n + q - p) % n ≡ n + q - p = mod-eq_of_lt (omega arith) in let sum : p + (n + q - p) ≡ n + q = omega arith in
      (omega arith, ap (λ i. (p + i) % n) is ∙ ap (λ k. k % n) sum ∙ add-mod_left n q ∙ mod-eq_of_lt qn)
  | inr after ↦ let far : n + q - p ≡ n + (q - p) = omega arith in
      let is : (n + q - p) % n ≡ q - p = ap (λ k. k % n) far ∙ add-mod_left n (q - p) ∙ mod-eq_of_lt (omega arith) in let sum : p + (q - p) ≡ q = omega arith in
      (omega arith, ap (λ i. (p + i) % n) is ∙ ap (λ k. k % n) sum ∙ mod-eq_of_lt qn)
]

-- no place on is the place itself
pub same_place : (n p : ℕ) → p < n → p ≡ (p + 0) % n
same_place n p pn = let none : p + 0 ≡ p = omega arith in sym (ap (λ k. k % n) none ∙ mod-eq_of_lt pn)
