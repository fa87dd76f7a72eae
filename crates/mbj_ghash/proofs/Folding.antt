-- The product of polynomials, reduced: its 128 highest coefficients are folded back by way of x^128.
use Rattle.std.proofs.Common.{◌≡◌, ℕ, zero, suc, ◌+◌, Bool, true, false, List, [], ◌∷◌, ◌++◌, length, refl, sym, ap, ap₂, ◌∙◌, arith}
use Rattle.mbj_types.specs.Field.{add, scale, zeros, times_x, times_power, multiple}
use Rattle.mbj_ghash.proofs.Sums.{add_swap, scale_true}
use Rattle.mbj_ghash.proofs.Multiples.{length-times_x, times_x-add, times_x-multiple}
use Rattle.mbj_ghash.proofs.Reductions.{reduced, reduced-whole}

-- ---- the product by x^n

-- one after another
pub times_power-plus : (b a : ℕ) (q : List Bool) → times_power a (times_power b q) ≡ times_power (b + a) q
unfolding times_power
times_power-plus zero a q = let e : zero + a ≡ a = omega arith in rw e refl
times_power-plus (suc b) a q =
    let e : suc b + a ≡ suc (b + a) = omega arith in rw e (times_power-plus b a (times_x q))

pub times_power-multiple : (n : ℕ) (p v : List Bool) → length v ≡ 128
    → times_power n (multiple p v) ≡ multiple p (times_power n v)
unfolding times_power
times_power-multiple zero p v h = refl
times_power-multiple (suc n) p v h =
    ap (times_power n) (times_x-multiple p v h) ∙ times_power-multiple n p (times_x v) (length-times_x v h)

scale-add : (c : Bool) (v w : List Bool) → scale c (add v w) ≡ add (scale c v) (scale c w)
scale-add true v w = scale_true (add v w) ∙ sym (ap₂ add (scale_true v) (scale_true w))
scale-add false [] w = refl
scale-add false (a ∷ v) [] = refl
scale-add false (a ∷ v) (b ∷ w) = ap (λ xs. false ∷ xs) (scale-add false v w)

pub multiple-add : (p v w : List Bool) → multiple p (add v w) ≡ add (multiple p v) (multiple p w)
multiple-add [] v w = refl
multiple-add (c ∷ p) v w =
    ap₂ add (scale-add c v w) (ap (multiple p) (times_x-add v w) ∙ multiple-add p (times_x v) (times_x w))
    ∙ add_swap (scale c v) (scale c w) (multiple p (times_x v)) (multiple p (times_x w))

-- ---- the product by x^128

abbrev pub one : List Bool
one = true ∷ zeros 127

scale-one : (b : Bool) → scale b one ≡ b ∷ zeros 127
scale-one true = refl
scale-one false = refl

pub multiple-one : (p : List Bool) → multiple p one ≡ reduced p
unfolding reduced
multiple-one [] = refl
multiple-one (b ∷ p) = ap₂ add (scale-one b) (sym (times_x-multiple p one refl) ∙ ap times_x (multiple-one p))

-- v + x v + x^2 v + x^7 v
abbrev pub folded : List Bool → List Bool
folded v = add v (add (times_x v) (add (times_power 2 v) (times_power 7 v)))

folded-one : times_power 128 one ≡ folded one
unfolding times_x times_power
folded-one = refl

pub times_x128 : (v : List Bool) → length v ≡ 128 → times_power 128 v ≡ folded v
unfolding times_power
times_x128 v h =
    let e : multiple v one ≡ v = multiple-one v ∙ reduced-whole v h in
    let l : length one ≡ 128 = refl in
    let at : (n : ℕ) → multiple v (times_power n one) ≡ times_power n v =
    λ n. sym (times_power-multiple n v one l) ∙ ap (times_power n) e in
    sym (at 128) ∙ ap (multiple v) folded-one
    ∙ multiple-add v one (add (times_x one) (add (times_power 2 one) (times_power 7 one)))
    ∙ ap₂ add e (multiple-add v (times_x one) (add (times_power 2 one) (times_power 7 one))
    ∙ ap₂ add (at 1) (multiple-add v (times_power 2 one) (times_power 7 one) ∙ ap₂ add (at 2) (at 7)))
