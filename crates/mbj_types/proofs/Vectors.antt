-- Lane i of what an operator makes of vectors of n words.
use Rattle.std.proofs.Common.{◌≡◌, ℕ, ◌+◌, ◌*◌, ◌/◌, ◌%◌, ◌^◌, ◌<◌, ◌||◌, Bool, true, false, T, List, length, slice_index, get_or, cond, leb, ltb, replicate, bit_and, bit_xor, ap, ◌∙◌, sym, subst, inl, inr, lt-ltb, le-leb, arith, w8, Fits}
use Rattle.std.specs.Int.{Width}
use Rattle.std.specs.Simd.Lanes.{zip2, Each1}
use Rattle.std.proofs.Math.Nat.{mod-eq_of_lt, mod-mod}
use Rattle.std.proofs.lemmas.Bool.Decides.{nat_tests}
use Rattle.std.proofs.lemmas.Simd.{get_or-zip2, get_or-replicate, length-replicate, Each1-get_or, Each1-from_get_or, get_or-swz_l, swz_l, SwzOk, SwzOk-from_Each1}
use Rattle.std.proofs.lemmas.Nat.{and_mod, xor_mod, mul-mod_first, shr_le}
use Rattle.mbj_types.specs.Lanes.{lane_at, IsTableIndex, table_byte}
use mir.Val.{bits}

-- an operator on two vectors
pair_at : (f : ℕ → ℕ → ℕ) (xs ys : List ℕ) (n i : ℕ) → length xs ≡ n → length ys ≡ n → i < n
    → slice_index (zip2 f xs ys) i ≡ f (slice_index xs i) (slice_index ys i)
pair_at f xs ys n i l m h = get_or-zip2 f xs ys i 0 0 0 (omega arith) (omega arith)

-- an operator on a vector and one word for all lanes
splat_at : (f : ℕ → ℕ → ℕ) (xs : List ℕ) (n y i : ℕ) → length xs ≡ n → i < n
    → slice_index (zip2 f xs (replicate n y)) i ≡ f (slice_index xs i) y
splat_at f xs n y i l h =
    pair_at f xs (replicate n y) n i l (length-replicate n y) h ∙ ap (λ (z : ℕ). f (slice_index xs i) z) (get_or-replicate n i y 0 h)

-- one word for all lanes
pub replicate_at : (k n word i : ℕ) → word < 2 ^ k → i < n → lane_at k (replicate n word) i ≡ word
replicate_at k n word i b h = ap (λ (x : ℕ). x % 2 ^ k) (get_or-replicate n i word 0 h) ∙ mod-eq_of_lt b

-- bitwise operators go through the reduction to a word
pub xor_at : (k : ℕ) (xs ys : List ℕ) (n i : ℕ) → length xs ≡ n → length ys ≡ n → i < n
    → lane_at k (zip2 bit_xor xs ys) i ≡ bit_xor (lane_at k xs i) (lane_at k ys i)
xor_at k xs ys n i l m h =
    ap (λ (x : ℕ). x % 2 ^ k) (pair_at bit_xor xs ys n i l m h) ∙ xor_mod (slice_index xs i) (slice_index ys i) k

pub and_at : (k : ℕ) (xs ys : List ℕ) (n i : ℕ) → length xs ≡ n → length ys ≡ n → i < n
    → lane_at k (zip2 bit_and xs ys) i ≡ bit_and (lane_at k xs i) (lane_at k ys i)
and_at k xs ys n i l m h =
    ap (λ (x : ℕ). x % 2 ^ k) (pair_at bit_and xs ys n i l m h) ∙ and_mod (slice_index xs i) (slice_index ys i) k

-- shifts by one number in all lanes
pub shl_at : (k : ℕ) (xs : List ℕ) (n by i : ℕ) → length xs ≡ n → i < n
    → lane_at k (zip2 (λ x y. x * 2 ^ y % 2 ^ k) xs (replicate n by)) i ≡ lane_at k xs i * 2 ^ by % 2 ^ k
shl_at k xs n by i l h =
    let x : ℕ = slice_index xs i in
    ap (λ (z : ℕ). z % 2 ^ k) (splat_at (λ x y. x * 2 ^ y % 2 ^ k) xs n by i l h)
    ∙ mod-mod (x * 2 ^ by) (2 ^ k) ∙ sym (mul-mod_first x (2 ^ by) (2 ^ k))

pub shr_at : (w : Width) (xs : List ℕ) (n by i : ℕ) → length xs ≡ n → Each1 (Fits w) xs → i < n
    → lane_at (bits w) (zip2 (λ x y. x / 2 ^ y) xs (replicate n by)) i ≡ lane_at (bits w) xs i / 2 ^ by
shr_at w xs n by i l f h =
    let x : ℕ = slice_index xs i in
    let b : x < 2 ^ bits w = (Each1-get_or (Fits w) xs i 0 (omega arith) f).fits in
    let g : x / 2 ^ by < 2 ^ bits w = omega (arith, shr_le x by) in
    ap (λ (z : ℕ). z % 2 ^ bits w) (splat_at (λ x y. x / 2 ^ y) xs n by i l h)
    ∙ mod-eq_of_lt g ∙ ap (λ (z : ℕ). z / 2 ^ by) (sym (mod-eq_of_lt b))

-- a table of 16 bytes in each group of 16 lanes, looked up at the n lanes of a vector, which are c groups
module _ (n c : ℕ) (whole : n ≡ 16 * c) (xs : List ℕ) (long : length xs ≡ n) (each : Each1 (Fits w8) xs)
    (indexes : (i : ℕ) → i < n → IsTableIndex (lane_at 8 xs i)) where
  byte_is : (i : ℕ) → i < n → lane_at 8 xs i ≡ slice_index xs i
  byte_is i h = mod-eq_of_lt ((Each1-get_or (Fits w8) xs i 0 (omega arith) each).fits)

  pub look_up_may : SwzOk w8 16 n 0 xs
  look_up_may =
      SwzOk-from_Each1 w8 16 c n 0 xs (omega arith) (omega arith)
      (Each1-from_get_or (λ x. T (leb 128 x || ltb x 16)) xs 0 (λ i h.
      let below : i < n = omega arith in
      may (slice_index xs i) (subst IsTableIndex (byte_is i below) (indexes i below))))
    where
      may : (x : ℕ) → IsTableIndex x → T (leb 128 x || ltb x 16)
      may x (inl h) = rw (lt-ltb x 16 h) (or_true (leb 128 x))
        where
          or_true : (a : Bool) → T (a || true)
          or_true true = tt
          or_true false = tt
      may x (inr h) = rw (le-leb 128 x h) tt

  pub table_at : (table rows : List ℕ) → ((i : ℕ) → i < n → slice_index rows i ≡ slice_index table (i % 16))
      → (i : ℕ) → i < n → lane_at 8 (swz_l w8 16 rows 0 xs) i ≡ table_byte table (lane_at 8 xs i)
  table_at table rows same i h =
      let x : ℕ = slice_index xs i in
      let index : IsTableIndex (slice_index xs i) = subst IsTableIndex (byte_is i h) (indexes i h) in
      let group : (0 + i) / 16 ≡ i / 16 = omega arith in
      ap (λ y. y % 2 ^ 8)
      (get_or-swz_l w8 16 rows 0 xs i (omega arith) ∙ ap (λ q. cond (leb 128 x) 0 (get_or rows (16 * q + x) 0)) group)
      ∙ chosen x index
      ∙ ap (table_byte table) (sym (byte_is i h))
    where
      chosen : (x : ℕ) → IsTableIndex x → cond (leb 128 x) 0 (get_or rows (16 * (i / 16) + x) 0) % 2 ^ 8 ≡ table_byte table x
      chosen x (inl k) =
          let place : (16 * (i / 16) + x) % 16 ≡ x = omega arith in
          let row : get_or rows (16 * (i / 16) + x) 0 ≡ slice_index table x =
          same (16 * (i / 16) + x) (omega arith) ∙ ap (slice_index table) place in
          grind (arith, nat_tests, row)
      chosen x (inr k) = grind (arith, nat_tests)
