-- A fact of each byte, from a test that the checker computes at each.
use Rattle.std.proofs.Common.{◌≡◌, ℕ, zero, suc, ◌<◌, Bool, true, false, ◌==◌, ◌&&◌, arith, inl, inr, refl}
use Rattle.std.proofs.lemmas.Bool.{cases_lt, eqb-true}

-- whether each number below n passes the test p
abbrev pub each_below : (ℕ → Bool) → ℕ → Bool
each_below p zero = true
each_below p (suc n) = p n && each_below p n

-- the two sides of a test that is passed
both : (a b : Bool) → (a && b) ≡ true → (a ≡ true) × (b ≡ true)
both true true h = (refl, refl)
both true false h = cc
both false b h = cc

-- a number below n passes the test that each one passes
pub at_each : (p : ℕ → Bool) (n k : ℕ) → each_below p n ≡ true → k < n → p k ≡ true
at_each p zero k h l = absurd (omega arith)
at_each p (suc n) k h l =
    let here = both (p n) (each_below p n) h in
    elim (cases_lt k n) [
      | inl below ↦ at_each p n k here.1 below
      | inr not_below ↦ let e : k ≡ n = omega arith in rw e here.0
    ]

-- two functions that the test finds equal at each number below n are equal at k
pub same_at_each : (f g : ℕ → ℕ) (n k : ℕ) → each_below (λ x. f x == g x) n ≡ true → k < n → f k ≡ g k
same_at_each f g n k h l = eqb-true (f k) (g k) (at_each (λ x. f x == g x) n k h l)
