-- Vectors lane by lane: choices, and the least lane.
use Rattle.std.proofs.Common.{◌≡◌, ℕ, zero, suc, ◌+◌, ◌-◌, ◌%◌, ◌^◌, ◌<◌, ◌≤◌, min, Bool, true, false, eqb, ltb, List, [], ◌∷◌, ◌++◌, length, map, take, drop, get_or, cond, replicate, inl, inr, Fits, w32, refl, sym, ap, ap₂, ◌∙◌, length-append, length-take, length-drop, take-append-drop, arith}
use mir.Syntax.{Width}
use mir.Val.{bits, hbits}
use lib.Lanes.{Each1, zip2, sel_l, mask_l, top}
use Rattle.std.specs.List.{range_with_len}
use Rattle.std.proofs.lemmas.Bool.{cases_eq, cases_lt, eq-eqb, ne_eqb, lt-ltb, le-ltb}
use Rattle.std.proofs.lemmas.List.{get_or_append_left, get_or-append_right}
use Rattle.std.proofs.lemmas.List.FromFn.{length-range_with_len, get_or-range_with_len}
use Rattle.std.proofs.Math.Nat.{mod-eq_of_lt}
use Rattle.std.proofs.lemmas.Simd.{Each1-get_or, tops_compared, get_or-sel_l, get_or-zip2, length-zip2, length-replicate, get_or-replicate, mask_l-mod}
use Rattle.mbj_types.specs.Lanes.{lane_at}
use Rattle.mbj_hmac.specs.Inside.InLanes.{idle, lowered, reach_at}
use Rattle.mbj_hmac.specs.Laws.Tests.{not_both}

-- a lane holds its word
pub lane_is : (w : Width) (v : List ℕ) (n i : ℕ) → length v ≡ n → Each1 (Fits w) v → i < n → get_or v i 0 % 2 ^ bits w ≡ get_or v i 0
lane_is w v n i size each h = mod-eq_of_lt ((Each1-get_or (Fits w) v i 0 (omega arith) each).fits)

-- a lane of a choice between two vectors by the comparison t of two others
pub chosen : (w : Width) (t : ℕ → ℕ → Bool) (xs ys zs bs : List ℕ) (n i : ℕ) → length xs ≡ n → length ys ≡ n → length zs ≡ n → length bs ≡ n → i < n
    → get_or (sel_l (map (top (hbits w)) (zip2 (λ a b. cond (t a b) (2 ^ bits w - 1) 0) xs ys)) zs bs) i 0
    ≡ cond (t (get_or xs i 0) (get_or ys i 0)) (get_or zs i 0) (get_or bs i 0)
chosen w t xs ys zs bs n i sx sy sa sb h =
    let ms : List Bool = zip2 t xs ys in
    let many : length ms ≡ n = length-zip2 t xs ys (sx ∙ sym sy) ∙ sx in
    ap (λ (ms : List Bool). get_or (sel_l ms zs bs) i 0) (tops_compared w t xs ys)
    ∙ get_or-sel_l ms zs bs i 0 (omega (arith, many)) (omega arith) (omega arith)
    ∙ ap (λ (m : Bool). cond m (get_or zs i 0) (get_or bs i 0)) (get_or-zip2 t xs ys i 0 0 false (omega arith) (omega arith))

-- a choice, modulo a number
pub cond-mod : (b : Bool) (x y n : ℕ) → cond b x y % n ≡ cond b (x % n) (y % n)
cond-mod true x y n = refl
cond-mod false x y n = refl

-- a vector with one word in all lanes
pub splat_is : (n i word : ℕ) → i < n → word < 2 ^ 32 → lane_at 32 (replicate n word) i ≡ word
splat_is n i word h fits = ap (λ x. x % 2 ^ 32) (get_or-replicate n i word 0 h) ∙ mod-eq_of_lt fits

pub splat64_is : (n i word : ℕ) → i < n → word < 2 ^ 64 → lane_at 64 (replicate n word) i ≡ word
splat64_is n i word h fits = ap (λ x. x % 2 ^ 64) (get_or-replicate n i word 0 h) ∙ mod-eq_of_lt fits

-- a vector that is chosen if two others are the same
pub where_equal_is : (w : Width) (xs ys zs bs : List ℕ) (n i : ℕ) → length xs ≡ n → length ys ≡ n → length zs ≡ n → length bs ≡ n
    → Each1 (Fits w) xs → Each1 (Fits w) ys → i < n
    → get_or (sel_l (map (top (hbits w)) (zip2 (λ a b. cond (eqb a b) (2 ^ bits w - 1) 0) xs ys)) zs bs) i 0 % 2 ^ bits w
    ≡ cond (eqb (get_or xs i 0 % 2 ^ bits w) (get_or ys i 0 % 2 ^ bits w)) (get_or zs i 0 % 2 ^ bits w) (get_or bs i 0 % 2 ^ bits w)
where_equal_is w xs ys zs bs n i sx sy sz sb fx fy h =
    ap (λ x. x % 2 ^ bits w) (chosen w eqb xs ys zs bs n i sx sy sz sb h)
    ∙ cond-mod (eqb (get_or xs i 0) (get_or ys i 0)) (get_or zs i 0) (get_or bs i 0) (2 ^ bits w)
    ∙ ap₂ (λ x y. cond (eqb x y) (get_or zs i 0 % 2 ^ bits w) (get_or bs i 0 % 2 ^ bits w)) (sym (lane_is w xs n i sx fx h)) (sym (lane_is w ys n i sy fy h))

none_more : (j : ℕ) → 0 + j ≡ j
none_more j = omega arith

-- a vector of word w with a word at lane i, by the numbers of the lanes
pub written : (w : Width) (v : List ℕ) (n i j word : ℕ) → length v ≡ n → j < n → word < 2 ^ bits w
    → get_or (sel_l (map (top (hbits w)) (zip2 (λ a b. cond (eqb a b) (2 ^ bits w - 1) 0) (range_with_len 0 n) (replicate n i))) (replicate n word) v) j 0 % 2 ^ bits w
    ≡ cond (eqb j i) word (get_or v j 0 % 2 ^ bits w)
written w v n i j word size h fits =
    ap (λ x. x % 2 ^ bits w) (chosen w eqb (range_with_len 0 n) (replicate n i) (replicate n word) v n j (length-range_with_len 0 n) (length-replicate n i) (length-replicate n word) size h)
    ∙ cond-mod (eqb (get_or (range_with_len 0 n) j 0) (get_or (replicate n i) j 0)) (get_or (replicate n word) j 0) (get_or v j 0) (2 ^ bits w)
    ∙ ap₂ (λ (b : Bool) x. cond b x (get_or v j 0 % 2 ^ bits w)) (ap₂ eqb (get_or-range_with_len 0 n j 0 h ∙ none_more j) (get_or-replicate n j i 0 h))
    (ap (λ x. x % 2 ^ bits w) (get_or-replicate n j word 0 h) ∙ mod-eq_of_lt fits)

-- the rest of a lane falls by m, but for an idle one
pub lowered_is : (r m : ℕ) → r ≤ idle → m < 2 ^ 32 → (r < idle → m ≤ r) → cond (eqb r idle) r ((r + (2 ^ 32 - m)) % 2 ^ 32) % 2 ^ 32 ≡ lowered m r
lowered_is r m le fits rest = elim (cases_eq r idle) [
  | inl same ↦ let yes : eqb r idle ≡ true = eq-eqb r idle same in rw yes (omega arith)
  | inr apart ↦ let no : eqb r idle ≡ false = ne_eqb r idle apart in let le' : m ≤ r = rest (omega arith) in rw no (omega arith)
]

pub reach_is : (r t : ℕ) → r < 2 ^ 32 → t < 2 ^ 32 → cond (ltb t r) ((r + (2 ^ 32 - t)) % 2 ^ 32) r % 2 ^ 32 ≡ reach_at r t
reach_is r t fits fits' = elim (cases_lt t r) [
  | inl lt ↦ rw (lt-ltb t r lt) (omega arith)
  | inr le ↦ rw (le-ltb t r le) (omega arith)
]

-- a mask of 0 has no bit
none_set : (ms : List Bool) (i : ℕ) → mask_l ms ≡ 0 → get_or ms i false ≡ true → ⊥
none_set [] i none t = not_both t
none_set (true ∷ ms) zero none t = absurd (omega arith)
none_set (false ∷ ms) zero none t = not_both t
none_set (b ∷ ms) (suc i) none t = let none' : mask_l ms ≡ 0 = omega arith in none_set ms i none' t

-- if no bit of a comparison by t is set, it holds of no lanes
pub none_told : (t : ℕ → ℕ → Bool) (xs ys : List ℕ) (n i : ℕ) → n ≤ 16 → length xs ≡ n → length ys ≡ n → i < n
    → mask_l (map (top 31) (zip2 (λ a b. cond (t a b) (2 ^ 32 - 1) 0) xs ys)) % 2 ^ 64 ≡ 0 → t (get_or xs i 0) (get_or ys i 0) ≡ true → ⊥
none_told t xs ys n i few sx sy h clear holds =
    let ms : List Bool = zip2 t xs ys in
    let many : length ms ≡ n = length-zip2 t xs ys (sx ∙ sym sy) ∙ sx in
    let none : mask_l ms ≡ 0 =
    sym (mask_l-mod ms 64 (omega (arith, many))) ∙ ap (λ (ms : List Bool). mask_l ms % 2 ^ 64) (sym (tops_compared w32 t xs ys)) ∙ clear in
    none_set ms i none (get_or-zip2 t xs ys i 0 0 false (omega arith) (omega arith) ∙ holds)

-- n is the least of some numbers
pub record IsLeastOf (n : ℕ) (xs : List ℕ) : Type 0 where
  pub below : (i : ℕ) → i < length xs → n ≤ get_or xs i 0
  pub met : (i : ℕ) × (i < length xs) × (n ≡ get_or xs i 0)

-- the least of the lesser ones, place by place, of two lists as long
pub least_joined : (n : ℕ) (xs ys : List ℕ) → length xs ≡ length ys → IsLeastOf n (zip2 min xs ys) → IsLeastOf n (xs ++ ys)
least_joined n xs ys same least =
    let long : length (zip2 min xs ys) ≡ length xs = length-zip2 min xs ys same in
    let at : (i : ℕ) → i < length xs → get_or (zip2 min xs ys) i 0 ≡ min (get_or xs i 0) (get_or ys i 0) = λ i h. get_or-zip2 min xs ys i 0 0 0 h (omega arith) in
    let m = least.met in
    let inside : m.0 < length xs = omega (arith, m.1, long) in
    record {
      below = λ i h. elim (cases_lt i (length xs)) [
        | inl lt ↦ omega (arith, least.below i (omega (arith, long)), at i lt, get_or_append_left xs ys 0 i lt)
        | inr le ↦
            let j : ℕ = i - length xs in
            let lt : j < length xs = omega (arith, length-append xs ys) in
            let right : get_or (xs ++ ys) i 0 ≡ get_or ys j 0 = get_or-append_right xs ys (length xs) i 0 refl le in
            omega (arith, least.below j (omega (arith, long)), at j lt, right)
      ];
      met = elim (cases_lt (get_or ys m.0 0) (get_or xs m.0 0)) [
        | inl lt ↦
            let i : ℕ = length xs + m.0 in
            let place : i - length xs ≡ m.0 = omega arith in
            let right : get_or (xs ++ ys) i 0 ≡ get_or ys m.0 0 = get_or-append_right xs ys (length xs) i 0 refl (omega arith) ∙ ap (λ k. get_or ys k 0) place in
            (i, omega (arith, length-append xs ys), omega (arith, m.2, at m.0 inside, right))
        | inr le ↦ (m.0, omega (arith, length-append xs ys), omega (arith, m.2, at m.0 inside, get_or_append_left xs ys 0 m.0 inside))
      ];
    }

-- the least of four
pub least_of_four : (v : List ℕ) → length v ≡ 4 → IsLeastOf (min (min (get_or v 0 0) (get_or v 1 0)) (min (get_or v 2 0) (get_or v 3 0))) v
least_of_four (a ∷ b ∷ c ∷ d ∷ []) size =
    record {
      below = λ i h. four i h;
      met = elim (cases_lt (min a b) (min c d)) [
        | inl lt ↦ elim (cases_lt a b) [ inl l ↦ (0, omega arith, omega arith) | inr l ↦ (1, omega arith, omega arith) ]
        | inr le ↦ elim (cases_lt c d) [ inl l ↦ (2, omega arith, omega arith) | inr l ↦ (3, omega arith, omega arith) ]
      ];
    }
  where
    four : (i : ℕ) → i < 4 → min (min a b) (min c d) ≤ get_or (a ∷ b ∷ c ∷ d ∷ []) i 0
    four zero h = omega arith
    four (suc zero) h = omega arith
    four (suc (suc zero)) h = omega arith
    four (suc (suc (suc zero))) h = omega arith
    four (suc (suc (suc (suc i)))) h = absurd (omega arith)
least_of_four v size = absurd (omega arith)

-- the lesser of each two lanes
pub lesser : (xs ys : List ℕ) → length xs ≡ length ys
    → sel_l (map (top 31) (zip2 (λ a b. cond (ltb a b) (2 ^ 32 - 1) 0) xs ys)) xs ys ≡ zip2 min xs ys
lesser [] ys same = refl
lesser (x ∷ xs) [] same = absurd (omega arith)
lesser (x ∷ xs) (y ∷ ys) same =
    let same' : length xs ≡ length ys = omega arith in
    ap₂ (λ z zs. z ∷ zs) (elim (cases_lt x y) [ inl lt ↦ rw (lt-ltb x y lt) (omega arith) | inr le ↦ rw (le-ltb x y le) (omega arith) ]) (lesser xs ys same')

-- the lesser ones of both halves of a list of 2 n
module _ (n : ℕ) (v half : List ℕ) (size : length v ≡ n + n) (is : half ≡ zip2 min (take n v) (drop n v)) where
  same_size : length (take n v) ≡ length (drop n v)
  same_size = omega (arith, length-take n v, length-drop n v)

  pub halves_size : length half ≡ n
  halves_size = ap length is ∙ length-zip2 min (take n v) (drop n v) same_size ∙ omega (arith, length-take n v)

  pub halves_least : (least : ℕ) → IsLeastOf least half → IsLeastOf least v
  halves_least least found = rw (sym (take-append-drop n v)) (least_joined least (take n v) (drop n v) same_size (rw is at found))
