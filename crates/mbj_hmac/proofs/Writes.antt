-- Bytes that are written one behind the other.
use Rattle.std.proofs.Common.{◌≡◌, ℕ, ◌+◌, ◌*◌, ◌≤◌, ◌<◌, ◌^◌, List, ◌∷◌, ◌++◌, ◌⊎◌, length, take, sym, ap, ap₂, ◌∙◌, arith, length-append, ◌/◌}
use Rattle.std.proofs.lemmas.List.{append_assoc, length-replicate}
use Rattle.std.specs.Prelude.{replicate}
use Rattle.std.specs.Int.{w64, to_be_bytes}
use Rattle.mbj_types.specs.declared.class.HashName.{HashName}
use Rattle.mbj_hmac.specs.Rounds.{Hashing}
use Rattle.mbj_hmac.specs.Inside.Layout.{IsStandard, fill}
use Rattle.mbj_hmac.proofs.Numbers.{before_range, fill_on, piece_fill, size_range, length-padding_of}
use Rattle.mbj_hmac.proofs.Laid.{length-padding}

-- a write behind a write
pub behind : (xs ys zs x y : List ℕ) (at next : ℕ) → next ≡ at + length x → take (at + length x) ys ≡ take at xs ++ x
    → take (next + length y) zs ≡ take next ys ++ y → take (at + length (x ++ y)) zs ≡ take at xs ++ (x ++ y)
behind xs ys zs x y at next e first second =
    let sum : at + length (x ++ y) ≡ next + length y = omega (arith, length-append x y) in
    ap (λ n. take n zs) sum ∙ second ∙ ap (λ n. take n ys ++ y) e ∙ ap (λ l. l ++ y) first ∙ append_assoc (take at xs) x y

module _ (h : Hashing) (std : IsStandard h) where
  abbrev b : ℕ
  b = h.block_bytes

  -- how long the padding is behind p bytes and a message of n, whose start is x
  pub padding_length : (p n f : ℕ) (x : List ℕ) → (p ≡ 0) ⊎ (p ≡ b) → n < 2 ^ 32 → f ≡ fill b n → x ≡ 0x80 ∷ replicate f 0
      → length x + 8 ≡ length (h.padding (p + n))
  padding_length p n f x is lt ef ex = omega (arith, ap length ex, length-replicate {A = ℕ} f 0, ef, length-padding h std p n is lt)

  -- the padding, by its parts as they were made
  pub padding_made : (p n f : ℕ) (x y : List ℕ) → (p ≡ 0) ⊎ (p ≡ b) → n < 2 ^ 32 → f ≡ fill b n → x ≡ 0x80 ∷ replicate f 0 → y ≡ to_be_bytes w64 (8 * (p + n))
      → h.padding (p + n) ≡ x ++ y
  padding_made p n f x y is lt ef ex ey =
      let room : p + n < 2 ^ 33 = omega (arith, before_range b std.size p is) in
      let times : (p + n) * 8 ≡ 8 * (p + n) = omega arith in
      std.pads (p + n) room
      ∙ ap₂ (λ (k m : ℕ). (0x80 ∷ replicate k 0) ++ to_be_bytes w64 m) (fill_on b std.size p n is ∙ sym ef) times
      ∙ ap₂ (λ q r. q ++ r) (sym ex) (sym ey)

  -- a digest and its padding are a block
  pub digest_full : (a : HashName) (s : List ℕ) → length (h.digest a s) + length (h.padding (b + length (h.digest a s))) ≡ b
  digest_full a s =
      let n : ℕ = length (h.digest a s) in
      let small : n + 1 + b / 8 ≤ b = std.room a s in
      let room : b + n < 2 ^ 33 = omega (arith, (size_range b std.size).1) in
      omega (arith, ap length (std.pads (b + n) room), length-padding_of b std.size (b + n), piece_fill b std.size n small)

-- what has been written grows
pub grown : (xs ys done x : List ℕ) (at next : ℕ) → take at xs ≡ done → next ≡ at + length x → take (at + length x) ys ≡ take at xs ++ x → take next ys ≡ done ++ x
grown xs ys done x at next so_far e written = ap (λ n. take n ys) e ∙ written ∙ ap (λ l. l ++ x) so_far
