-- Counter blocks as the numbers that counters are.
use Rattle.std.proofs.Common.{◌≡◌, ℕ, ◌+◌, ◌-◌, ◌*◌, ◌/◌, ◌%◌, ◌^◌, ◌<◌, ◌≤◌, List, [], ◌∷◌, length, refl, sym, ap, ap₂, ◌∙◌, arith, length-append}
use Rattle.std.specs.Int.{w128, bytes_high_first, to_be_bytes, from_be_bytes}
use Rattle.std.proofs.Math.Nat.{mod-eq_of_lt, pow-le-pow_right}
use Rattle.std.proofs.lemmas.List.Elements.{All-append, All-cons}
use Rattle.mbj_types.specs.Blocks.{xor_lists}
use Rattle.mbj_types.specs.Modes.{ctr_blocks}
use Rattle.mbj_types.specs.Ccm.{length_bytes, counter_block, counted}
use Rattle.mbj_aes.specs.Bytes.{IsBytes}
use Rattle.mbj_ccm.proofs.WrittenNumbers.{length-bytes_high_first, IsBytes-bytes_high_first, with_bytes, with_bytes-append, with_bytes-above, bytes-with_bytes, with_bytes-bytes, from_be_bytes-with_bytes}

-- counter block i as a number
number : List ℕ → ℕ → ℕ
number nonce i = from_be_bytes w128 (counter_block nonce i)

module _ (nonce : List ℕ) (small : IsBytes nonce) (short : length nonce ≤ 13) where
  -- the flags and the nonce
  abbrev front : List ℕ
  front = (length_bytes nonce - 1) ∷ nonce

  size : (i : ℕ) → length (counter_block nonce i) ≡ 16
  unfolding counter_block
  size i =
      let rest : length (bytes_high_first (length_bytes nonce) i) ≡ 15 - length nonce =
      length-bytes_high_first (length_bytes nonce) i in
      length-append front (bytes_high_first (length_bytes nonce) i) ∙ omega arith

  bytes : (i : ℕ) → IsBytes (counter_block nonce i)
  unfolding counter_block
  bytes i =
      All-append (λ x. x < 256) front (bytes_high_first (length_bytes nonce) i)
      (All-cons (λ x. x < 256) (length_bytes nonce - 1) nonce (omega arith) small)
      (IsBytes-bytes_high_first (length_bytes nonce) i)

  number-bytes : (i : ℕ) → number nonce i ≡ with_bytes 0 (counter_block nonce i)
  unfolding number
  number-bytes i = from_be_bytes-with_bytes (counter_block nonce i) (size i)

  -- the number's bytes are the block
  to_be_bytes-number : (i : ℕ) → to_be_bytes w128 (number nonce i) ≡ counter_block nonce i
  to_be_bytes-number i =
      let n : ℕ = with_bytes 0 (counter_block nonce i) in
      ap (to_be_bytes w128) (number-bytes i)
      ∙ ap (λ (k : ℕ). bytes_high_first k n) (sym (size i))
      ∙ bytes-with_bytes 0 (counter_block nonce i) (bytes i)

  number-fits : (i : ℕ) → number nonce i < 2 ^ 128
  number-fits i =
      let n : ℕ = with_bytes 0 (counter_block nonce i) in
      let above : n / 256 ^ 16 ≡ 0 =
      ap (λ (k : ℕ). n / 256 ^ k) (sym (size i)) ∙ with_bytes-above 0 (counter_block nonce i) (bytes i) in
      omega (arith, number-bytes i)

  -- the text's number stands behind the flags and the nonce
  number-low : (i : ℕ) → i < 2 ^ 16 → number nonce i ≡ with_bytes 0 front * 256 ^ length_bytes nonce + i
  unfolding counter_block
  number-low i lt =
      let room : 256 ^ 2 ≤ 256 ^ length_bytes nonce =
      pow-le-pow_right {n = 256} (omega arith) {i = 2} {j = length_bytes nonce} (omega arith) in
      number-bytes i
      ∙ with_bytes-append 0 front (bytes_high_first (length_bytes nonce) i)
      ∙ with_bytes-bytes (length_bytes nonce) i (with_bytes 0 front)
      ∙ ap (λ (m : ℕ). with_bytes 0 front * 256 ^ length_bytes nonce + m) (mod-eq_of_lt (omega arith))

  -- the next number is that of the next block: it carries no further than into its own bytes
  number-next : (i : ℕ) → i + 1 < 2 ^ 16 → (number nonce i + 1) % 2 ^ 128 ≡ number nonce (i + 1)
  number-next i lt = omega (arith, number-low i (omega arith), number-low (i + 1) lt, number-fits (i + 1))

  counted-number : (e : List ℕ → List ℕ) (i : ℕ) (bs : List (List ℕ)) → i + length bs < 2 ^ 16
      → counted e nonce i bs ≡ ctr_blocks e (number nonce i) bs
  counted-number e i [] lt = refl
  counted-number e i (p ∷ ps) lt =
      ap₂ (λ m rest. xor_lists p (e m) ∷ rest) (sym (to_be_bytes-number i))
      (counted-number e (i + 1) ps (omega arith)
      ∙ ap (λ (t : ℕ). ctr_blocks e t ps) (sym (number-next i (omega arith))))

  -- ---- what callers need, of the number t of counter block i

  pub counter-block : (t i : ℕ) → t ≡ from_be_bytes w128 (counter_block nonce i) → to_be_bytes w128 t ≡ counter_block nonce i
  unfolding number
  counter-block t i is = ap (to_be_bytes w128) is ∙ to_be_bytes-number i

  pub counted-from : (e : List ℕ → List ℕ) (t i : ℕ) (bs : List (List ℕ)) → i + length bs < 2 ^ 16
      → t ≡ from_be_bytes w128 (counter_block nonce i) → ctr_blocks e t bs ≡ counted e nonce i bs
  unfolding number
  counted-from e t i bs lt is = ap (λ (u : ℕ). ctr_blocks e u bs) is ∙ sym (counted-number e i bs lt)

  pub counted-after : (e : List ℕ → List ℕ) (t i : ℕ) (bs : List (List ℕ)) → i + 1 + length bs < 2 ^ 16
      → t ≡ from_be_bytes w128 (counter_block nonce i)
      → ctr_blocks e ((t + 1) % 2 ^ 128) bs ≡ counted e nonce (i + 1) bs
  unfolding number
  counted-after e t i bs lt is =
      ap (λ (u : ℕ). ctr_blocks e ((u + 1) % 2 ^ 128) bs) is
      ∙ ap (λ (u : ℕ). ctr_blocks e u bs) (number-next i (omega arith))
      ∙ sym (counted-number e (i + 1) bs lt)
