-- The sizes of keys, one by one.
use Rattle.std.proofs.Common.{◌≡◌, ℕ, ◌/◌, ◌⊎◌, inl, inr, arith}
use Rattle.std.proofs.lemmas.Bool.{eqb-true}
use Rattle.mbj_aes.specs.Bytes.{IsKeySize, IsKeyWords}

-- 16, 24 or 32 bytes
pub key_sizes : (n : ℕ) → IsKeySize n → (n ≡ 16) ⊎ ((n ≡ 24) ⊎ (n ≡ 32))
key_sizes n h = grind (arith, eqb-true)

-- 4, 6 or 8 words
words_of : (n : ℕ) → (n ≡ 16) ⊎ ((n ≡ 24) ⊎ (n ≡ 32)) → IsKeyWords (n / 4)
words_of n (inl e) = inl (omega arith)
words_of n (inr (inl e)) = inr (inl (omega arith))
words_of n (inr (inr e)) = inr (inr (omega arith))

pub key_words : (n : ℕ) → IsKeySize n → IsKeyWords (n / 4)
key_words n h = words_of n (key_sizes n h)
