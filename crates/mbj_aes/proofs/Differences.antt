-- Bits that say where bytes differ.
use Rattle.std.proofs.Common.{◌≡◌, ◌↔◌, ℕ, List, ◌∷◌, bit_or, bit_xor, ap, sym, ◌∙◌, arith}
use Rattle.std.specs.Int.Bits.{or_add_and, or_zero_l, xor_add_and, xor_self}
use Rattle.std.proofs.lemmas.Nat.{and_le_l, and_le_r}

-- if no bit is set in either of two numbers, none is in each
no_bits : (a b : ℕ) → bit_or a b ≡ 0 → (a ≡ 0) × (b ≡ 0)
no_bits a b none = (omega (arith, none, or_add_and a b, and_le_l a b, and_le_r a b), omega (arith, none, or_add_and a b, and_le_l a b, and_le_r a b))

-- numbers that differ in no bit are equal
no_difference : (a b : ℕ) → bit_xor a b ≡ 0 → a ≡ b
no_difference a b none = omega (arith, none, xor_add_and a b, and_le_l a b, and_le_r a b)

-- if the bits so far and the lists that are left say whether E holds, the bits of one more pair and what is left then do
pub says_on : {E : Type 0} (bits a b : ℕ) (xs ys xs' ys' : List ℕ) → ((bits ≡ 0) × (xs ≡ ys)) ↔ E → xs ≡ a ∷ xs' → ys ≡ b ∷ ys'
    → ((bit_or bits (bit_xor a b) ≡ 0) × (xs' ≡ ys')) ↔ E
says_on bits a b xs ys xs' ys' says first first' = (
  λ h. let apart = no_bits bits (bit_xor a b) h.0 in
      let same : a ∷ xs' ≡ b ∷ ys' = ap (λ x. x ∷ xs') (no_difference a b apart.1) ∙ ap (λ l. b ∷ l) h.1 in
      says.0 (apart.0, first ∙ same ∙ sym first'),
  λ e. let was = says.1 e in let same : a ∷ xs' ≡ b ∷ ys' = sym first ∙ was.1 ∙ first' in
      let head : a ≡ b = cc in let rest : xs' ≡ ys' = cc in
      (ap (λ n. bit_or n (bit_xor a b)) was.0 ∙ or_zero_l (bit_xor a b) ∙ ap (λ n. bit_xor a n) (sym head) ∙ xor_self a, rest),
)
