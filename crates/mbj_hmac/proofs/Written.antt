-- The words of a lane, written or chosen one after the other.
use Rattle.std.proofs.Common.{◌≡◌, ℕ, zero, suc, ◌+◌, ◌≤◌, ◌<◌, Bool, true, false, eqb, cond, List, [], ◌∷◌, ◌++◌, length, map, take, drop, set, get_or, take_all, append-nil, refl, ap, ap₂, ◌∙◌, add-one, arith}
use Rattle.std.proofs.lemmas.Bool.{eq-eqb, ne_eqb}
use Rattle.std.proofs.lemmas.List.{length-map, length-set}
use Rattle.mbj_types.specs.Lanes.{lane_at, lane_of}

set_next : (ws os : List ℕ) (k : ℕ) → k < length ws → length ws ≡ length os
    → set (take k ws ++ drop k os) k (get_or ws k 0) ≡ take (suc k) ws ++ drop (suc k) os
set_next [] os k h same = absurd (omega arith)
set_next (w ∷ ws) [] k h same = absurd (omega arith)
set_next (w ∷ ws) (o ∷ os) zero h same = refl
set_next (w ∷ ws) (o ∷ os) (suc k) h same =
    let h' : k < length ws = omega arith in
    let same' : length ws ≡ length os = omega arith in
    ap (λ xs. w ∷ xs) (set_next ws os k h' same')

length_cond : (t : Bool) (ws os : List ℕ) → length ws ≡ length os → length (cond t ws os) ≡ length os
length_cond true ws os same = same
length_cond false ws os same = refl

cond_at : (t : Bool) (ws os : List ℕ) (k : ℕ) → cond t (get_or ws k 0) (get_or os k 0) ≡ get_or (cond t ws os) k 0
cond_at true ws os k = refl
cond_at false ws os k = refl

-- behind the words that are written the others are left
left_at : (ws os : List ℕ) (k : ℕ) → k < length ws → length ws ≡ length os → get_or (take k ws ++ drop k os) k 0 ≡ get_or os k 0
left_at [] os k h same = absurd (omega arith)
left_at (w ∷ ws) [] k h same = absurd (omega arith)
left_at (w ∷ ws) (o ∷ os) zero h same = refl
left_at (w ∷ ws) (o ∷ os) (suc k) h same =
    let h' : k < length ws = omega arith in
    let same' : length ws ≡ length os = omega arith in
    left_at ws os k h' same'

drop_all : (k : ℕ) (xs : List ℕ) → length xs ≤ k → drop k xs ≡ []
drop_all zero [] h = refl
drop_all (suc k) [] h = refl
drop_all zero (x ∷ xs) h = absurd (omega arith)
drop_all (suc k) (x ∷ xs) h = let h' : length xs ≤ k = omega arith in drop_all k xs h'

module _ {V : Type 0} (f : V → ℕ) where
  map-set : (xs : List V) (k : ℕ) (v : V) → map f (set xs k v) ≡ set (map f xs) k (f v)
  map-set [] k v = refl
  map-set (x ∷ xs) zero v = refl
  map-set (x ∷ xs) (suc k) v = ap (λ ys. f x ∷ ys) (map-set xs k v)

  -- a vector is written whose word is as before
  word_stays : (xs : List V) (k : ℕ) (v d : V) → k < length xs → f v ≡ f (get_or xs k d) → map f (set xs k v) ≡ map f xs
  word_stays [] k v d h same = refl
  word_stays (x ∷ xs) zero v d h same = ap (λ y. y ∷ map f xs) same
  word_stays (x ∷ xs) (suc k) v d h same = let h' : k < length xs = omega arith in ap (λ ys. f x ∷ ys) (word_stays xs k v d h' same)

  -- one word more is written
  word_next : (xs : List V) (k : ℕ) (v : V) (ws os : List ℕ) → k < length ws → length ws ≡ length os
      → map f xs ≡ take k ws ++ drop k os → f v ≡ get_or ws k 0 → map f (set xs k v) ≡ take (suc k) ws ++ drop (suc k) os
  word_next xs k v ws os h same before is = rw (map-set xs k v, before, is) (set_next ws os k h same)

  -- a word that was read
  word_read : (xs : List V) (k : ℕ) (x : V) → k < length xs → x ≡ get_or xs k x → f x ≡ get_or (map f xs) k 0
  word_read [] k x h is = absurd (omega arith)
  word_read (y ∷ xs) zero x h is = ap f is
  word_read (y ∷ xs) (suc k) x h is = let h' : k < length xs = omega arith in word_read xs k x h' is

  -- one word more is chosen between those of two lists
  pub chosen_next : (t : Bool) (same old xs : List V) (k : ℕ) (a b v : V) → k < length same → length same ≡ length old → length xs ≡ length old
      → a ≡ get_or same k a → b ≡ get_or xs k b → f v ≡ cond t (f a) (f b)
      → map f xs ≡ take k (cond t (map f same) (map f old)) ++ drop k (map f old)
      → map f (set xs k v) ≡ take (k + 1) (cond t (map f same) (map f old)) ++ drop (k + 1) (map f old)
  chosen_next t same old xs k a b v h size size' ea eb is done =
      let ws : List ℕ = cond t (map f same) (map f old) in
      let os : List ℕ = map f old in
      let long : length ws ≡ length os = length_cond t (map f same) os (omega (arith, length-map same f, length-map old f)) in
      let inside : k < length ws = omega (arith, long, length-map old f) in
      let here : f b ≡ get_or os k 0 = word_read xs k b (omega arith) eb ∙ ap (λ l. get_or l k 0) done ∙ left_at ws os k inside long in
      let next : f v ≡ get_or ws k 0 =
      is ∙ ap₂ (λ x y. cond t x y) (word_read same k a h ea) here ∙ cond_at t (map f same) os k in
      rw (add-one k) (word_next xs k v ws os inside long done next)

-- all are chosen
pub all_chosen : (t : Bool) (ws os : List ℕ) (k : ℕ) → length ws ≡ length os → k ≡ length os
    → take k (cond t ws os) ++ drop k os ≡ cond t ws os
all_chosen t ws os k size all =
    let long : length (cond t ws os) ≡ length os = length_cond t ws os size in
    let first : take k (cond t ws os) ≡ cond t ws os = take_all k (cond t ws os) (omega (arith, long)) in
    let rest : drop k os ≡ [] = drop_all k os (omega arith) in
    rw (first, rest) (append-nil (cond t ws os))

-- the words at lane i of n vectors of such lanes, of which the first k are written
module _ (bits lanes n i : ℕ) (old xs : List (List ℕ)) (ws : List ℕ) where
  pub record AreWritten (k : ℕ) : Type 0 where
    pub size : length xs ≡ n
    pub here : lane_of (lane_at bits) xs i ≡ take k ws ++ drop k (lane_of (lane_at bits) old i)
    pub others : (j : ℕ) → j < lanes → (j ≡ i → ⊥) → lane_of (lane_at bits) xs j ≡ lane_of (lane_at bits) old j

-- vector k is written
pub written_next : (bits lanes n i k : ℕ) (old xs : List (List ℕ)) (ws v : List ℕ) → i < lanes → k < n → length ws ≡ n → length old ≡ n
    → ((j : ℕ) → j < lanes → lane_at bits v j ≡ cond (eqb j i) (get_or ws k 0) (lane_at bits (get_or xs k []) j))
    → AreWritten bits lanes n i old xs ws k → AreWritten bits lanes n i old (set xs k v) ws (k + 1)
written_next bits lanes n i k old xs ws v lane h size size' put inv =
    let inside : k < length xs = omega (arith, inv.size) in
    let same : length ws ≡ length (lane_of (lane_at bits) old i) = omega (arith, length-map old (λ v. lane_at bits v i)) in
    record {
      size = length-set xs k v ∙ inv.size;
      here = rw (add-one k) (word_next (λ v. lane_at bits v i) xs k v ws (lane_of (lane_at bits) old i) (omega arith) same inv.here
          (put i lane ∙ ap (λ b. cond b (get_or ws k 0) (lane_at bits (get_or xs k []) i)) (eq-eqb i i refl)));
      others = λ j l apart. word_stays (λ v. lane_at bits v j) xs k v [] inside
          (put j l ∙ ap (λ b. cond b (get_or ws k 0) (lane_at bits (get_or xs k []) j)) (ne_eqb j i apart)) ∙ inv.others j l apart;
    }
