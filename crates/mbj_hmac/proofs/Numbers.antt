-- How many blocks and bytes a message and its padding take, for blocks of 64 and of 128 bytes.
use Rattle.std.proofs.Common.{◌≡◌, ℕ, ◌+◌, ◌*◌, ◌/◌, ◌%◌, ◌≤◌, ◌<◌, ◌⊎◌, inl, inr, length, subst, sym, ap, ◌∙◌, arith, length-append}
use Rattle.std.proofs.lemmas.List.{length-replicate}
use Rattle.std.specs.Prelude.{List, replicate}
use Rattle.std.specs.Int.{w64, to_be_bytes}
use Rattle.mbj_types.specs.Rounds.{hash_rounds}
use Rattle.mbj_hmac.specs.Inside.Layout.{tail_blocks, fill, padding_of}

module _ (b : ℕ) (size : (b ≡ 64) ⊎ (b ≡ 128)) where
  -- what holds for both sizes
  pub by_size : (P : ℕ → Type 0) → P 64 → P 128 → P b
  by_size P p q = elim size [ inl e ↦ subst P (sym e) p | inr e ↦ subst P (sym e) q ]

  pub size_range : (64 ≤ b) × (b ≤ 128)
  size_range = by_size (λ b. (64 ≤ b) × (b ≤ 128)) (omega arith, omega arith) (omega arith, omega arith)

  -- the message's end and its padding fill one block or two
  pub tail_range : (n : ℕ) → (1 ≤ tail_blocks b n) × (tail_blocks b n ≤ 2)
  unfolding tail_blocks
  tail_range n = by_size (λ b. (1 ≤ tail_blocks b n) × (tail_blocks b n ≤ 2)) (omega arith, omega arith) (omega arith, omega arith)

  pub split : (n : ℕ) → b * (n / b) + n % b ≡ n
  split n = by_size (λ b. b * (n / b) + n % b ≡ n) (omega arith) (omega arith)

  pub rounds_is : (n : ℕ) → hash_rounds b n ≡ n / b + tail_blocks b n
  unfolding tail_blocks
  rounds_is n = by_size (λ b. hash_rounds b n ≡ n / b + tail_blocks b n) (omega arith) (omega arith)

  -- the tail is full
  pub fill_is : (n : ℕ) → n % b + 1 + fill b n + 8 ≡ b * tail_blocks b n
  unfolding tail_blocks fill
  fill_is n = by_size (λ b. n % b + 1 + fill b n + 8 ≡ b * tail_blocks b n) (omega arith) (omega arith)

  pub fill_less : (n : ℕ) → fill b n < 144
  unfolding tail_blocks fill
  fill_less n = by_size (λ b. fill b n < 144) (omega arith) (omega arith)

  -- a block before the message changes nothing of its padding but the length
  fill_on_block : (n : ℕ) → fill b (b + n) ≡ fill b n
  unfolding tail_blocks fill
  fill_on_block n = by_size (λ b. fill b (b + n) ≡ fill b n) (omega arith) (omega arith)

  pub fill_on : (p n : ℕ) → (p ≡ 0) ⊎ (p ≡ b) → fill b (p + n) ≡ fill b n
  fill_on p n is =
      let none : 0 + n ≡ n = omega arith in
      elim is [ inl e ↦ ap (λ x. fill b (x + n)) e ∙ ap (fill b) none | inr e ↦ ap (λ x. fill b (x + n)) e ∙ fill_on_block n ]

  -- such a block is no longer than 128 bytes
  pub before_range : (p : ℕ) → (p ≡ 0) ⊎ (p ≡ b) → p ≤ 128
  before_range p is = elim is [ inl e ↦ omega arith | inr e ↦ omega (arith, size_range) ]

  -- a block, and a piece that leaves room for the padding, end with a block
  pub piece_fill : (n : ℕ) → n + 1 + b / 8 ≤ b → n + 1 + fill b (b + n) + 8 ≡ b
  unfolding tail_blocks fill
  piece_fill n = by_size (λ b. n + 1 + b / 8 ≤ b → n + 1 + fill b (b + n) + 8 ≡ b) (λ h. omega arith) (λ h. omega arith)

  pub length-padding_of : (n : ℕ) → length (padding_of b n) ≡ 1 + fill b n + 8
  length-padding_of n =
      let z : List ℕ = replicate (fill b n) 0 in
      let bits : List ℕ = to_be_bytes w64 (n * 8) in
      omega (arith, length-append z bits, length-replicate {A = ℕ} (fill b n) 0)

  pub times_le : (x y : ℕ) → x ≤ y → b * x ≤ b * y
  times_le x y = by_size (λ b. x ≤ y → b * x ≤ b * y) (λ h. omega arith) (λ h. omega arith)

  -- as many blocks as bytes by the block
  pub blocks : (x l : ℕ) → l ≡ b * x → l / b ≡ x
  blocks x l = by_size (λ b. l ≡ b * x → l / b ≡ x) (λ e. omega arith) (λ e. omega arith)
