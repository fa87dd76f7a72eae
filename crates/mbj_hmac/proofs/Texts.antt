-- Blocks of b bytes of a text, by where they stand.
use Rattle.std.proofs.Common.{◌≡◌, ℕ, ◌+◌, ◌-◌, ◌≤◌, List, ◌++◌, length, take, drop, sym, ap, ◌∙◌, arith, length-drop}
use Rattle.std.proofs.lemmas.List.{take-append-le, drop-append-le, drop-take, take-take, drop-drop}
use Rattle.std.proofs.Math.Seq.{drop-append-add}

module _ (b : ℕ) where
  -- a block inside the front of a text
  pub block_left : (k : ℕ) (xs ys : List ℕ) → k + b ≤ length xs → take b (drop k (xs ++ ys)) ≡ take b (drop k xs)
  block_left k xs ys h =
      let fits : b ≤ length (drop k xs) = omega (arith, length-drop k xs) in
      ap (take b) (drop-append-le k xs ys (omega arith)) ∙ take-append-le b (drop k xs) ys fits

  -- a block behind the front of a text
  pub block_right : (k n : ℕ) (xs ys : List ℕ) → length xs + n ≡ k → take b (drop k (xs ++ ys)) ≡ take b (drop n ys)
  block_right k n xs ys h = ap (λ i. take b (drop i (xs ++ ys))) (sym h) ∙ ap (take b) (drop-append-add xs ys n)

  -- a block inside a take
  pub block_take : (k n : ℕ) (xs : List ℕ) → k + b ≤ n → take b (drop k (take n xs)) ≡ take b (drop k xs)
  block_take k n xs h =
      let sum : k + (n - k) ≡ n = omega arith in
      ap (λ i. take b (drop k (take i xs))) (sym sum) ∙ ap (take b) (drop-take k (n - k) xs) ∙ take-take b (n - k) (drop k xs) (omega arith)

  -- a block behind a drop
  pub block_drop : (k n : ℕ) (xs : List ℕ) → take b (drop k (drop n xs)) ≡ take b (drop (n + k) xs)
  block_drop k n xs = ap (take b) (drop-drop k n xs)

  -- a block of a range of a packet
  pub block_range : (k off len : ℕ) (xs : List ℕ) → k + b ≤ len → take b (drop k (take len (drop off xs))) ≡ take b (drop (off + k) xs)
  block_range k off len xs h = block_take k len (drop off xs) h ∙ block_drop k off xs
