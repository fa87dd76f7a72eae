-- Blocks in the lanes of vectors of n bytes, which are c blocks.
use Rattle.std.proofs.Common.{◌≡◌, ℕ, ◌+◌, ◌-◌, ◌*◌, ◌/◌, ◌%◌, ◌^◌, ◌<◌, ◌≤◌, ◌||◌, Bool, true, false, T, List, ◌++◌, length, map, slice_index, get_or, cond, leb, ltb, w8, Fits, refl, sym, ap, subst, ◌∙◌, arith, lt-ltb, inl, inr}
use Rattle.std.specs.List.{range_with_len}
use Rattle.std.proofs.lemmas.Bool.{cases_lt}
use Rattle.std.proofs.lemmas.Bool.Decides.{nat_tests}
use Rattle.std.proofs.Math.Nat.{mod-eq_of_lt}
use Rattle.std.proofs.lemmas.List.{get_or_append_left, get_or-append_right}
use Rattle.std.proofs.lemmas.List.FromFn.{fill_by_all, get_or-map-range_with_len, length-map-range_with_len}
use Rattle.std.proofs.lemmas.Simd.{Each1-get_or, Each1-from_get_or, get_or-swz_l, swz_l, SwzOk, SwzOk-from_Each1}
use Rattle.std.specs.Simd.Lanes.{Each1}
use Rattle.mbj_types.specs.Lanes.{lane_at}
use Rattle.mbj_aes.specs.BlockWords.{block_with, block_byte, block_at}

-- the lanes of a block are below the number of lanes
pub within : (n c b j : ℕ) → n ≡ 16 * c → b < c → j < 16 → 16 * b + j < n
within n c b j whole h k = omega arith

-- the block with these bytes
pub block_with-each : (f : ℕ → ℕ) (block : List ℕ) → length block ≡ 16 → ((j : ℕ) → j < 16 → f j ≡ slice_index block j) → block_with f ≡ block
unfolding block_with
block_with-each f block size same = sym (fill_by_all f block 16 0 size (λ j h. sym (same j h)))

pub block_with-same : (f g : ℕ → ℕ) → ((j : ℕ) → j < 16 → f j ≡ g j) → block_with f ≡ block_with g
unfolding block_with
block_with-same f g same =
    block_with-each f (block_with g) (length-map-range_with_len g 0 16)
    (λ j h. same j h ∙ sym (get_or-map-range_with_len g 0 16 j j 0 h (omega arith)))

pub length-block_with : (f : ℕ → ℕ) → length (block_with f) ≡ 16
unfolding block_with
length-block_with f = length-map-range_with_len f 0 16

-- byte j of it
pub slice_index-block_with : (f : ℕ → ℕ) (j : ℕ) → j < 16 → slice_index (block_with f) j ≡ f j
unfolding block_with
slice_index-block_with f j h = get_or-map-range_with_len f 0 16 j j 0 h (omega arith)

-- a block that stands in a vector
pub block_in_vector : (xs block : List ℕ) (b : ℕ) → length block ≡ 16 → ((j : ℕ) → j < 16 → slice_index block j < 256)
    → ((j : ℕ) → j < 16 → slice_index xs (16 * b + j) ≡ slice_index block j) → block_at (lane_at 8) xs b ≡ block
block_in_vector xs block b size fits same =
    block_with-each (λ j. lane_at 8 xs (16 * b + j)) block size
    (λ j h. ap (λ (x : ℕ). x % 2 ^ 8) (same j h) ∙ mod-eq_of_lt (fits j h))

-- a block that is taken out of a vector
pub block_extracted : (n : ℕ) (xs : List ℕ) (b : ℕ) → length xs ≡ n → Each1 (Fits w8) xs → 16 * b + 16 ≤ n
    → map (slice_index (xs ++ xs)) (range_with_len (16 * b) 16) ≡ block_at (lane_at 8) xs b
block_extracted n xs b size fits inside =
    sym (block_with-each (λ j. lane_at 8 xs (16 * b + j)) (map (slice_index (xs ++ xs)) (range_with_len (16 * b) 16))
    (length-map-range_with_len (slice_index (xs ++ xs)) (16 * b) 16)
    (λ j h.
    let below : 16 * b + j < length xs = omega arith in
    mod-eq_of_lt (Each1-get_or (Fits w8) xs (16 * b + j) 0 below fits).fits
    ∙ sym (get_or-map-range_with_len (slice_index (xs ++ xs)) (16 * b) 16 j (16 * b + j) 0 h refl
    ∙ get_or_append_left xs xs 0 (16 * b + j) below)))

-- two vectors side by side
pub first_in_both : (xs a b : List ℕ) (j : ℕ) → length a ≡ 16 → xs ≡ map (slice_index (a ++ b)) (range_with_len 0 32) → j < 16
    → slice_index xs j ≡ slice_index a j
first_in_both xs a b j size e h =
    ap (λ v. slice_index v j) e
    ∙ get_or-map-range_with_len (slice_index (a ++ b)) 0 32 j j 0 (omega arith) (omega arith)
    ∙ get_or_append_left a b 0 j (omega arith)

pub second_in_both : (xs a b : List ℕ) (j : ℕ) → length a ≡ 16 → xs ≡ map (slice_index (a ++ b)) (range_with_len 0 32) → j < 16
    → slice_index xs (16 + j) ≡ slice_index b j
second_in_both xs a b j size e h =
    let behind : 16 + j - 16 ≡ j = omega arith in
    ap (λ v. slice_index v (16 + j)) e
    ∙ get_or-map-range_with_len (slice_index (a ++ b)) 0 32 (16 + j) (16 + j) 0 (omega arith) (omega arith)
    ∙ get_or-append_right a b 16 (16 + j) 0 size (omega arith) ∙ ap (slice_index b) behind

-- one of two blocks
pub either_block : (P : ℕ → Type 0) → P 0 → P 1 → (b : ℕ) → b < 2 → P b
either_block P p q b h = elim (cases_lt b 1) [
  | inl below ↦ let is : b ≡ 0 = omega arith in rw is p
  | inr above ↦ let is : b ≡ 1 = omega arith in rw is q
]

-- bytes that stand in both blocks of a vector
pub in_either : (xs a : List ℕ) → ((j : ℕ) → j < 16 → slice_index xs j ≡ slice_index a j)
    → ((j : ℕ) → j < 16 → slice_index xs (16 + j) ≡ slice_index a j)
    → (b j : ℕ) → b < 2 → j < 16 → slice_index xs (16 * b + j) ≡ slice_index a j
in_either xs a first second b j h k =
    let here : 16 * 0 + j ≡ j = omega arith in
    either_block (λ b. slice_index xs (16 * b + j) ≡ slice_index a j) (ap (slice_index xs) here ∙ first j k) (second j k) b h

-- the bytes of each block in another order, which stands in all blocks of a vector
module _ (n c : ℕ) (whole : n ≡ 16 * c) (places at : List ℕ) (long : length at ≡ n)
    (below : (j : ℕ) → j < 16 → slice_index places j < 16)
    (same : (b j : ℕ) → b < c → j < 16 → slice_index at (16 * b + j) ≡ slice_index places j) where
  inside : (i : ℕ) → i < n → slice_index at i < 16
  inside i h =
      let here : 16 * (i / 16) + i % 16 ≡ i = omega arith in
      subst (λ i. slice_index at i < 16) here
      (rw (same (i / 16) (i % 16) (omega arith) (omega arith)) (below (i % 16) (omega arith)))

  pub placed_may : SwzOk w8 16 n 0 at
  placed_may =
      SwzOk-from_Each1 w8 16 c n 0 at (omega arith) (omega arith)
      (Each1-from_get_or (λ x. T (leb 128 x || ltb x 16)) at 0 (λ i h. may (slice_index at i) (inside i (omega arith))))
    where
      or_true : (a : Bool) → T (a || true)
      or_true true = tt
      or_true false = tt

      may : (x : ℕ) → x < 16 → T (leb 128 x || ltb x 16)
      may x h = rw (lt-ltb x 16 h) (or_true (leb 128 x))

  pub placed_at : (xs : List ℕ) (b j : ℕ) → b < c → j < 16
      → block_byte (lane_at 8) (swz_l w8 16 xs 0 at) b j ≡ block_byte (lane_at 8) xs b (slice_index places j)
  placed_at xs b j h k =
      let i : ℕ = 16 * b + j in
      let block : (0 + i) / 16 ≡ b = omega arith in
      ap (λ y. y % 2 ^ 8)
      (get_or-swz_l w8 16 xs 0 at i (omega arith)
      ∙ ap (λ q. cond (leb 128 (slice_index at i)) 0 (get_or xs (16 * q + slice_index at i) 0)) block
      ∙ ap (λ x. cond (leb 128 x) 0 (get_or xs (16 * b + x) 0)) (same b j h k)
      ∙ taken (slice_index places j) (get_or xs (16 * b + slice_index places j) 0) (below j k))
    where
      taken : (x y : ℕ) → x < 16 → cond (leb 128 x) 0 y ≡ y
      taken x y h = grind (arith, nat_tests)
