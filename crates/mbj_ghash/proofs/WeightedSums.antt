-- Sums of elements, the terms of which count by powers of x^8.
use Rattle.std.proofs.Common.{◌≡◌, ℕ, zero, suc, ◌+◌, ◌*◌, ◌<◌, ◌≤◌, Bool, List, length, refl, sym, ap, ap₂, ◌∙◌, arith}
use Rattle.mbj_types.specs.Field.{add, zeros, times_x, times_power, weighted}
use Rattle.mbj_ghash.proofs.Sums.{add_assoc, add_swap, add_zeros, length-add}
use Rattle.mbj_ghash.proofs.Multiples.{times_power-add}
use Rattle.mbj_ghash.proofs.Folding.{times_power-plus}

-- equal terms
pub weighted-same : (f g : ℕ → List Bool) (n : ℕ) → ((i : ℕ) → i < n → f i ≡ g i) → weighted f n ≡ weighted g n
unfolding weighted
weighted-same f g zero same = refl
weighted-same f g (suc n) same =
    ap₂ (λ p q. add p (times_power (8 * n) q)) (weighted-same f g n (λ i h. same i (omega arith))) (same n (omega arith))

pub long-weighted : (f : ℕ → List Bool) (n : ℕ) → 128 ≤ length (weighted f n)
unfolding weighted
long-weighted f zero = let e : length (zeros 128) ≡ 128 = refl in omega arith
long-weighted f (suc n) = omega (arith, length-add (weighted f n) (times_power (8 * n) (f n)), long-weighted f n)

-- terms that are sums
pub weighted-add : (f g : ℕ → List Bool) (n : ℕ) → weighted (λ i. add (f i) (g i)) n ≡ add (weighted f n) (weighted g n)
unfolding weighted
weighted-add f g zero = refl
weighted-add f g (suc n) =
    ap₂ add (weighted-add f g n) (times_power-add (8 * n) (f n) (g n))
    ∙ add_swap (weighted f n) (weighted g n) (times_power (8 * n) (f n)) (times_power (8 * n) (g n))

-- terms that are 0
pub power-zeros : (n : ℕ) → times_power n (zeros 128) ≡ zeros 128
unfolding times_x times_power
power-zeros zero = refl
power-zeros (suc n) = power-zeros n

pub weighted-zeros : (n : ℕ) → weighted (λ _. zeros 128) n ≡ zeros 128
unfolding weighted
weighted-zeros zero = refl
weighted-zeros (suc n) = ap₂ add (weighted-zeros n) (power-zeros (8 * n))

-- the product by x^m
pub power-swap : (a b : ℕ) (p : List Bool) → times_power a (times_power b p) ≡ times_power b (times_power a p)
power-swap a b p =
    let e : b + a ≡ a + b = omega arith in
    times_power-plus b a p ∙ ap (λ (k : ℕ). times_power k p) e ∙ sym (times_power-plus a b p)

pub weighted-power : (m : ℕ) (f : ℕ → List Bool) (n : ℕ) → times_power m (weighted f n) ≡ weighted (λ i. times_power m (f i)) n
unfolding weighted times_power
weighted-power m f zero = power-zeros m
weighted-power m f (suc n) =
    times_power-add m (weighted f n) (times_power (8 * n) (f n)) ∙ ap₂ add (weighted-power m f n) (power-swap m (8 * n) (f n))

-- a sum of rows is the sum of their columns
pub weighted-turned : (f : ℕ → ℕ → List Bool) (n m : ℕ)
    → weighted (λ i. weighted (f i) m) n ≡ weighted (λ d. weighted (λ i. f i d) n) m
unfolding weighted
weighted-turned f zero m = sym (weighted-zeros m)
weighted-turned f (suc n) m =
    ap₂ add (weighted-turned f n m) (weighted-power (8 * n) (f n) m)
    ∙ sym (weighted-add (λ d. weighted (λ i. f i d) n) (λ d. times_power (8 * n) (f n d)) m)

-- the first m terms, and those behind them
pub weighted-split : (f : ℕ → List Bool) (m n : ℕ)
    → weighted f (m + n) ≡ add (weighted f m) (times_power (8 * m) (weighted (λ i. f (m + i)) n))
unfolding weighted
weighted-split f m zero =
    let e : m + zero ≡ m = omega arith in
    rw e (sym (ap (add (weighted f m)) (power-zeros (8 * m)) ∙ add_zeros 128 (weighted f m) (long-weighted f m)))
weighted-split f m (suc n) =
    let e : m + suc n ≡ suc (m + n) = omega arith in
    let rest : List Bool = weighted (λ i. f (m + i)) n in
    let last : List Bool = f (m + n) in
    let k : 8 * (m + n) ≡ 8 * n + 8 * m = omega arith in
    let at : times_power (8 * (m + n)) last ≡ times_power (8 * m) (times_power (8 * n) last) =
    ap (λ (j : ℕ). times_power j last) k ∙ sym (times_power-plus (8 * n) (8 * m) last) in
    rw e (ap₂ add (weighted-split f m n) at
    ∙ add_assoc (weighted f m) (times_power (8 * m) rest) (times_power (8 * m) (times_power (8 * n) last))
    ∙ ap (add (weighted f m)) (sym (times_power-add (8 * m) rest (times_power (8 * n) last))))
