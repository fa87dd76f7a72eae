-- The schoolbook product, reduced, is a multiple by one coefficient after another.
use Rattle.std.proofs.Common.{◌≡◌, ℕ, zero, suc, ◌+◌, ◌≤◌, Bool, true, false, List, [], ◌∷◌, ◌++◌, length, take, refl, sym, ap, ap₂, ◌∙◌, arith, length-append}
use Rattle.std.proofs.lemmas.List.{length-replicate, length-take-le, append_assoc, append-nil, take-replicate}
use Rattle.mbj_types.specs.Field.{plus, add, scale, mul, zeros, tail, coefficient, fold_top, reduce, product, times_x, multiple}
use Rattle.mbj_ghash.proofs.Sums.{plus_comm, zeros_add, add_zeros, add_swap, append-add, length-add, length-scale, scale_true, scale_false}
use Rattle.mbj_ghash.proofs.Multiples.{length-times_x, times_x-add, times_x-multiple}

-- ---- a polynomial of any length, reduced from its lowest coefficient on: b + x * p

-- each polynomial as an element: x times the rest, and the lowest coefficient added
unfoldable pub reduced : List Bool → List Bool
reduced [] = zeros 128
reduced (b ∷ p) = add (b ∷ zeros 127) (times_x (reduced p))

-- it has 128 coefficients
pub length-reduced : (p : List Bool) → length (reduced p) ≡ 128
unfolding reduced
length-reduced [] = refl
length-reduced (b ∷ p) =
    length-add (b ∷ zeros 127) (times_x (reduced p)) ∙ omega (arith, length-times_x (reduced p) (length-reduced p))

-- the lowest coefficient is 0
pub reduced-false : (p : List Bool) → reduced (false ∷ p) ≡ times_x (reduced p)
unfolding reduced
reduced-false p = zeros_add 128 (times_x (reduced p)) (omega (arith, length-times_x (reduced p) (length-reduced p)))

-- ---- it is linear

-- of a sum
pub reduced-add : (p q : List Bool) → reduced (add p q) ≡ add (reduced p) (reduced q)
unfolding reduced
reduced-add [] q = sym (zeros_add 128 (reduced q) (omega (arith, length-reduced q)))
reduced-add (a ∷ p) [] = sym (add_zeros 128 (reduced (a ∷ p)) (omega (arith, length-reduced (a ∷ p))))
reduced-add (a ∷ p) (b ∷ q) =
    ap (λ x. add (plus a b ∷ zeros 127) (times_x x)) (reduced-add p q)
    ∙ ap (λ x. add (plus a b ∷ zeros 127) x) (times_x-add (reduced p) (reduced q))
    ∙ add_swap (a ∷ zeros 127) (b ∷ zeros 127) (times_x (reduced p)) (times_x (reduced q))

-- of zeros
reduced-zeros : (n : ℕ) → reduced (zeros n) ≡ zeros 128
unfolding reduced times_x
reduced-zeros zero = refl
reduced-zeros (suc n) = ap (λ x. add (zeros 128) (times_x x)) (reduced-zeros n)

-- of a product by a coefficient
reduced-scale : (c : Bool) (p : List Bool) → reduced (scale c p) ≡ scale c (reduced p)
reduced-scale true p = ap reduced (scale_true p) ∙ sym (scale_true (reduced p))
reduced-scale false p =
    ap reduced (scale_false p) ∙ reduced-zeros (length p) ∙ sym (scale_false (reduced p) ∙ ap zeros (length-reduced p))

-- of a schoolbook product
reduced-mul : (p q : List Bool) → reduced (mul p q) ≡ multiple p (reduced q)
unfolding reduced
reduced-mul [] q = refl
reduced-mul (a ∷ p) q =
    reduced-add (scale a q) (false ∷ mul p q)
    ∙ ap₂ add (reduced-scale a q)
    (reduced-false (mul p q) ∙ ap times_x (reduced-mul p q) ∙ times_x-multiple p (reduced q) (length-reduced q))

-- ---- at most 128 coefficients stay as they are

-- zeros have no coefficient 1
coefficient-zeros : (n i : ℕ) → coefficient (zeros n) i ≡ false
coefficient-zeros zero i = refl
coefficient-zeros (suc n) zero = refl
coefficient-zeros (suc n) (suc i) = coefficient-zeros n i

-- nor have the zeros behind a polynomial
coefficient-padded : (p : List Bool) (n i : ℕ) → length p ≤ i → coefficient (p ++ zeros n) i ≡ false
coefficient-padded [] n i h = coefficient-zeros n i
coefficient-padded (a ∷ p) n zero h = absurd (omega arith)
coefficient-padded (a ∷ p) n (suc i) h = coefficient-padded p n i (omega arith)

-- all but the last of the zeros behind a polynomial
take-padded : (p : List Bool) (n m : ℕ) → length p + n ≡ m → take m (p ++ zeros (suc n)) ≡ p ++ zeros n
take-padded [] n m h = let e : m ≡ n = omega arith in rw e (take-replicate n (suc n) false (omega arith))
take-padded (a ∷ p) n zero h = absurd (omega arith)
take-padded (a ∷ p) n (suc m) h = ap (λ xs. a ∷ xs) (take-padded p n m (omega arith))

-- the length with zeros behind
length-padded : (p : List Bool) (n m : ℕ) → length p + n ≡ m → length (p ++ zeros n) ≡ m
length-padded p n m h = length-append p (zeros n) ∙ omega (arith, length-replicate n false)

-- the product by x, if there is room for it
times_x-padded : (p : List Bool) (n : ℕ) → length p + n ≡ 127 → times_x (p ++ zeros (suc n)) ≡ false ∷ (p ++ zeros n)
unfolding times_x
times_x-padded p n h =
    let l : length (false ∷ (p ++ zeros n)) ≡ 128 = omega (arith, length-padded p n 127 h) in
    ap₂ add (ap (λ x. false ∷ x) (take-padded p n 127 h))
    (ap (λ c. scale c tail) (coefficient-padded p (suc n) 127 (omega arith)))
    ∙ add_zeros 8 (false ∷ (p ++ zeros n)) (omega arith)

-- fewer coefficients get zeros behind them
reduced-short : (p : List Bool) (n : ℕ) → length p + n ≡ 128 → reduced p ≡ p ++ zeros n
unfolding reduced
reduced-short [] n h = let e : n ≡ 128 = omega arith in rw e refl
reduced-short (b ∷ p) n h =
    let l : length p + n ≡ 127 = omega arith in
    ap (λ x. add (b ∷ zeros 127) (times_x x)) (reduced-short p (suc n) (omega arith))
    ∙ ap (λ x. add (b ∷ zeros 127) x) (times_x-padded p n l)
    ∙ ap₂ (λ x xs. x ∷ xs) (plus_comm b false) (zeros_add 127 (p ++ zeros n) (omega (arith, length-padded p n 127 l)))

-- 128 coefficients are the element
pub reduced-whole : (p : List Bool) → length p ≡ 128 → reduced p ≡ p
reduced-whole p h = reduced-short p 0 (omega arith) ∙ append-nil p

-- ---- the highest coefficient may be replaced by way of x^128

-- equal elements stay equal when both are moved up by n places
reduced-shift : (n : ℕ) (p q : List Bool) → reduced p ≡ reduced q → reduced (zeros n ++ p) ≡ reduced (zeros n ++ q)
reduced-shift zero p q e = e
reduced-shift (suc n) p q e =
    reduced-false (zeros n ++ p) ∙ ap times_x (reduced-shift n p q e) ∙ sym (reduced-false (zeros n ++ q))

-- the coefficient of x^128 alone
reduced-x_128 : (c : Bool) → reduced (zeros 128 ++ c ∷ []) ≡ reduced (scale c tail)
unfolding reduced times_x
reduced-x_128 true = refl
reduced-x_128 false = refl

-- zeros behind zeros
zeros-append : (n m : ℕ) → zeros (n + m) ≡ zeros n ++ zeros m
zeros-append zero m = let e : 0 + m ≡ m = omega arith in rw e refl
zeros-append (suc n) m =
    let e : suc n + m ≡ suc (n + m) = omega arith in rw e (ap (λ xs. false ∷ xs) (zeros-append n m))

-- the coefficient of x^(n + 128) alone
reduced-top : (n : ℕ) (c : Bool) → reduced (zeros (n + 128) ++ c ∷ []) ≡ reduced (zeros n ++ scale c tail)
reduced-top n c =
    ap (λ x. reduced (x ++ c ∷ [])) (zeros-append n 128) ∙ ap reduced (append_assoc (zeros n) (zeros 128) (c ∷ []))
    ∙ reduced-shift n (zeros 128 ++ c ∷ []) (scale c tail) (reduced-x_128 c)

-- the highest coefficient apart from the others
last_apart : (p : List Bool) (m : ℕ) → length p ≡ suc m → p ≡ take m p ++ (coefficient p m ∷ [])
last_apart [] m h = absurd (omega arith)
last_apart (a ∷ []) zero h = refl
last_apart (a ∷ b ∷ p) zero h = absurd (omega arith)
last_apart (a ∷ p) (suc m) h = ap (λ xs. a ∷ xs) (last_apart p m (omega arith))

-- the highest coefficient, replaced
reduced-fold_top : (n : ℕ) (p : List Bool) → length p ≡ suc (n + 128) → reduced (fold_top n p) ≡ reduced p
reduced-fold_top n p h =
    let m : ℕ = n + 128 in
    let c : Bool = coefficient p m in
    let l : length (take m p) ≡ m = length-take-le m p (omega arith) in
    reduced-add (take m p) (zeros n ++ scale c tail) ∙ ap (λ x. add (reduced (take m p)) x) (sym (reduced-top n c))
    ∙ sym (reduced-add (take m p) (zeros m ++ c ∷ []))
    ∙ ap reduced (ap (λ k. add (take m p) (zeros k ++ c ∷ [])) (sym l) ∙ sym (append-add (take m p) c)
    ∙ sym (last_apart p m h))

-- one coefficient fewer is left
length-fold_top : (n : ℕ) (p : List Bool) → length p ≡ suc (n + 128) → length (fold_top n p) ≡ n + 128
length-fold_top n p h =
    let c : Bool = coefficient p (n + 128) in
    let k : length (scale c tail) ≡ 8 = refl in
    let r : length (zeros n ++ scale c tail) ≡ n + 8 =
    length-append (zeros n) (scale c tail) ∙ omega (arith, length-replicate n false) in
    length-add (take (n + 128) p) (zeros n ++ scale c tail) ∙ omega (arith, length-take-le (n + 128) p (omega arith))

-- all coefficients from x^128 on, replaced from the highest down
pub reduced-reduce : (n : ℕ) (p : List Bool) → length p ≡ n + 128 → reduced p ≡ reduce n p
reduced-reduce zero p h = reduced-whole p (omega arith)
reduced-reduce (suc n) p h =
    let l : length p ≡ suc (n + 128) = omega arith in
    sym (reduced-fold_top n p l) ∙ reduced-reduce n (fold_top n p) (length-fold_top n p l)

-- ---- the product

-- the length of the schoolbook product
length-mul : (a : Bool) (p q : List Bool) → length q ≡ 128 → length (mul (a ∷ p) q) ≡ length p + 128
length-mul a [] q h = length-add (scale a q) (false ∷ []) ∙ omega (arith, length-scale a q)
length-mul a (b ∷ p) q h =
    length-add (scale a q) (false ∷ mul (b ∷ p) q) ∙ omega (arith, length-scale a q, length-mul b p q h)

-- the product of two elements is a multiple
pub product-multiple : (p q : List Bool) → length p ≡ 128 → length q ≡ 128 → product p q ≡ multiple p q
unfolding product
product-multiple [] q h k = absurd (omega arith)
product-multiple (a ∷ p) q h k =
    sym (reduced-reduce 127 (mul (a ∷ p) q) (length-mul a p q k ∙ omega arith))
    ∙ reduced-mul (a ∷ p) q ∙ ap (multiple (a ∷ p)) (reduced-whole q k)
