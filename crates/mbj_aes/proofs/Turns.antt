-- The turns of a schedule's words, of as many words as the key has.
use Rattle.std.proofs.Common.{◌≡◌, ℕ, ◌+◌, ◌/◌, ◌%◌, inl, inr, sym, subst, arith}
use Rattle.mbj_aes.specs.Bytes.{IsKeyWords}

-- what holds for 4, 6 and 8 words
of_words : (P : ℕ → Type 0) (n : ℕ) → IsKeyWords n → P 4 → P 6 → P 8 → P n
of_words P n (inl e) four six eight = subst P (sym e) four
of_words P n (inr (inl e)) four six eight = subst P (sym e) six
of_words P n (inr (inr e)) four six eight = subst P (sym e) eight

-- word n is the first one of turn 1
pub place-first : (n : ℕ) → IsKeyWords n → 0 ≡ n % n
place-first n words = of_words (λ n. 0 ≡ n % n) n words (omega arith) (omega arith) (omega arith)

pub number-first : (n : ℕ) → IsKeyWords n → 1 ≡ n / n
number-first n words = of_words (λ n. 1 ≡ n / n) n words (omega arith) (omega arith) (omega arith)

-- from word i to the next one
pub place-next : (n i place : ℕ) → IsKeyWords n → place ≡ i % n → (place + 1) % n ≡ (i + 1) % n
place-next n i place words =
    of_words (λ n. place ≡ i % n → (place + 1) % n ≡ (i + 1) % n) n words (λ e. omega (arith, e)) (λ e. omega (arith, e)) (λ e. omega (arith, e))

pub number-next : (n i place number : ℕ) → IsKeyWords n → place ≡ i % n → number ≡ i / n
    → number + (place + 1) / n ≡ (i + 1) / n
number-next n i place number words =
    of_words (λ n. place ≡ i % n → number ≡ i / n → number + (place + 1) / n ≡ (i + 1) / n) n words
    (λ p e. omega (arith, p, e)) (λ p e. omega (arith, p, e)) (λ p e. omega (arith, p, e))
