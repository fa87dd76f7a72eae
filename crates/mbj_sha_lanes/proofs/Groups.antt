-- Vectors whose lanes are those of two groups, the first group's before the second's.
use Rattle.std.proofs.Common.{◌≡◌, ℕ, ◌+◌, ◌-◌, ◌%◌, ◌^◌, ◌<◌, List, [], ◌++◌, length, get_or, slice_index_or, sym, ap, ◌∙◌, arith, inl, inr}
use Rattle.std.proofs.lemmas.Bool.{cases_lt}
use Rattle.std.proofs.lemmas.Grind.{same_number_lists}
use Rattle.std.specs.Simd.Lanes.{Each1}
use Rattle.std.proofs.lemmas.Simd.{Each1-get_or}
use Rattle.std.proofs.lemmas.List.{get_or_append_left, get_or-append-add}
use Rattle.mbj_types.specs.Lanes.{lane_at, lane_of}
use Rattle.mbj_types.proofs.LaneLists.{length-lane_of, slice_index-lane_of}

-- vectors whose words in a lane are those of others in theirs
pub same_lanes : (bits : ℕ) (xs ys : List (List ℕ)) (i j : ℕ) → length xs ≡ length ys
    → ((k : ℕ) → k < length xs → lane_at bits (slice_index_or xs k []) i ≡ lane_at bits (slice_index_or ys k []) j)
    → lane_of (lane_at bits) xs i ≡ lane_of (lane_at bits) ys j
same_lanes bits xs ys i j size each =
    let lane = lane_at bits in
    same_number_lists (lane_of lane xs i) (lane_of lane ys j) (length-lane_of lane xs i ∙ size ∙ sym (length-lane_of lane ys j))
    (λ k h.
    let inside : k < length xs = omega (arith, length-lane_of lane xs i) in
    slice_index-lane_of lane xs i k [] inside
    ∙ each k inside
    ∙ sym (slice_index-lane_of lane ys j k [] (omega (arith, size))))

module _ (bits n : ℕ) where
  pub first_lane : (xs ys : List ℕ) (i : ℕ) → length xs ≡ n → i < n → lane_at bits (xs ++ ys) i ≡ lane_at bits xs i
  first_lane xs ys i l lt = ap (λ (x : ℕ). x % 2 ^ bits) (get_or_append_left xs ys 0 i (omega arith))

  pub second_lane : (xs ys : List ℕ) (i : ℕ) → length xs ≡ n → lane_at bits (xs ++ ys) (n + i) ≡ lane_at bits ys i
  second_lane xs ys i l = ap (λ (x : ℕ). x % 2 ^ bits) (ap (λ m. get_or (xs ++ ys) (m + i) 0) (sym l) ∙ get_or-append-add xs ys i 0)

  -- this many vectors, each of n lanes, and the vectors of both groups
  module _ (count : ℕ) (ws low high : List (List ℕ))
      (size : length ws ≡ count) (low_size : length low ≡ count) (high_size : length high ≡ count)
      (width : Each1 (λ v. length v ≡ n) low)
      (joined : (k : ℕ) → k < count → slice_index_or ws k [] ≡ slice_index_or low k [] ++ slice_index_or high k []) where
    pub first_lanes : (i : ℕ) → i < n → lane_of (lane_at bits) ws i ≡ lane_of (lane_at bits) low i
    first_lanes i lt =
        same_lanes bits ws low i i (size ∙ sym low_size)
        (λ k h.
        let wide = Each1-get_or (λ (v : List ℕ). length v ≡ n) low k [] (omega (arith, size, low_size)) width in
        ap (λ v. lane_at bits v i) (joined k (omega (arith, size))) ∙ first_lane (slice_index_or low k []) (slice_index_or high k []) i wide lt)

    pub second_lanes : (i : ℕ) → lane_of (lane_at bits) ws (n + i) ≡ lane_of (lane_at bits) high i
    second_lanes i =
        same_lanes bits ws high (n + i) i (size ∙ sym high_size)
        (λ k h.
        let wide = Each1-get_or (λ (v : List ℕ). length v ≡ n) low k [] (omega (arith, size, low_size)) width in
        ap (λ v. lane_at bits v (n + i)) (joined k (omega (arith, size))) ∙ second_lane (slice_index_or low k []) (slice_index_or high k []) i wide)

    -- the words of blocks that were loaded as the two groups
    pub both_lanes : (words : ℕ → List ℕ) → ((i : ℕ) → i < n → words (0 + i) ≡ lane_of (lane_at bits) low i)
        → ((i : ℕ) → i < n → words (n + i) ≡ lane_of (lane_at bits) high i) → (i : ℕ) → i < n + n → words i ≡ lane_of (lane_at bits) ws i
    both_lanes words firsts seconds i lt =
        elim (cases_lt i n) [
          | inl first ↦
              let at : i ≡ 0 + i = omega arith in
              ap words at ∙ firsts i first ∙ sym (first_lanes i first)
          | inr second ↦
              let at : i ≡ n + (i - n) = omega arith in
              rw at (seconds (i - n) (omega arith) ∙ sym (second_lanes (i - n)))
        ]
