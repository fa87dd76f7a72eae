-- Matrices of bytes whose rows are lane words: shuffled, transposed, loaded and stored.
use Rattle.std.proofs.Common.{◌≡◌, ◌≢◌, ℕ, ◌+◌, ◌-◌, ◌*◌, ◌/◌, ◌%◌, ◌^◌, ◌<◌, ◌≤◌, List, ◌++◌, length, map, get_or, set, slice_index, refl, sym, ap, ◌∙◌, arith, inl, inr, get_or-set_same, get_or-set_other}
use Rattle.std.specs.List.{range_with_len}
use Rattle.std.proofs.lemmas.Bool.{cases_lt}
use Rattle.std.proofs.lemmas.List.{get_or_append_left, get_or-append_right, get_or-map}
use Rattle.std.proofs.lemmas.List.FromFn.{get_or-map-range_with_len}
use Rattle.mbj_types.specs.Lanes.{lane_at, lane_of}
use Rattle.mbj_types.proofs.LaneLists.{length-lane_of, lane_of-set}
use Rattle.mbj_aes.specs.BlockWords.{block_at}
use Rattle.mbj_aes.proofs.BlockWords.{block_with-each, block_with-same}
use Rattle.mbj_aes_lanes.specs.Inside.Matrix.{byte_at_row, block_at_row, in_turn}

-- ---- two rows side by side

-- a byte of the first row
in_first : (n : ℕ) (xs ys : List ℕ) (k at : ℕ) → length xs ≡ n → k < n → at ≡ k → slice_index (xs ++ ys) at ≡ slice_index xs k
in_first n xs ys k at size h e = ap (slice_index (xs ++ ys)) e ∙ get_or_append_left xs ys 0 k (omega arith)

-- a byte of the second row
in_second : (n : ℕ) (xs ys : List ℕ) (k at : ℕ) → length xs ≡ n → at ≡ n + k → slice_index (xs ++ ys) at ≡ slice_index ys k
in_second n xs ys k at size e =
    let behind : at - n ≡ k = omega arith in
    get_or-append_right xs ys n at 0 size (omega arith) ∙ ap (slice_index ys) behind

-- where byte i of two rows in turn comes from, of their halves from `half` on
abbrev from_both : ℕ → ℕ → ℕ → ℕ
from_both n half i = n * (i % 2) + (16 * (i / 16) + (half + i % 16 / 2))

-- the halves of each block of two rows of n lanes, in turn
pub row_in_turn : (n half : ℕ) (xs ys row : List ℕ) → length xs ≡ n → n % 16 ≡ 0 → half ≤ 8
    → row ≡ map (λ i. slice_index (xs ++ ys) (from_both n half i)) (range_with_len 0 n)
    → (g k to : ℕ) → 16 * g < n → k < 16 → to ≡ 16 * g + (half + k / 2)
    → lane_at 8 row (16 * g + k) ≡ lane_at 8 (in_turn xs ys k) to
row_in_turn n half xs ys row size whole low e g k to hg hk et =
    let i : ℕ = 16 * g + k in
    let inside : i < n = omega arith in
    let group : i / 16 ≡ g = omega arith in
    let place : i % 16 ≡ k = omega arith in
    let at : slice_index row i ≡ slice_index (xs ++ ys) (from_both n half i) =
    ap (λ r. slice_index r i) e
    ∙ get_or-map-range_with_len (λ i. slice_index (xs ++ ys) (from_both n half i)) 0 n i i 0 inside (omega arith) in
    elim (cases_lt (k % 2) 1) [
      | inl below ↦
          let even : k % 2 ≡ 0 = omega arith in
          let even_i : i % 2 ≡ 0 = omega arith in
          let from : from_both n half i ≡ to =
          ap (λ (b : ℕ). n * b + (16 * (i / 16) + (half + i % 16 / 2))) even_i ∙ omega arith in
          rw even (ap (λ (x : ℕ). x % 2 ^ 8) (at ∙ in_first n xs ys to (from_both n half i) size (omega arith) from))
      | inr above ↦
          let odd : k % 2 ≡ 1 = omega arith in
          let odd_i : i % 2 ≡ 1 = omega arith in
          let from : from_both n half i ≡ n + to =
          ap (λ (b : ℕ). n * b + (16 * (i / 16) + (half + i % 16 / 2))) odd_i ∙ omega arith in
          rw odd (ap (λ (x : ℕ). x % 2 ^ 8) (at ∙ in_second n xs ys to (from_both n half i) size from))
    ]

module _ {V : Type 0} (lane : V → ℕ → ℕ) where
  -- a byte of rows m and m + 8 of a matrix in turn
  pub byte_in_turn : (rows : List V) (m k i : ℕ) (d : V) → m < 8 → length rows ≡ 16
      → lane (in_turn (get_or rows m d) (get_or rows (m + 8) d) k) i ≡ byte_at_row lane rows (m + 8 * (k % 2)) i
  byte_in_turn rows m k i d h size = elim (cases_lt (k % 2) 1) [
    | inl below ↦
        let is_even : k % 2 ≡ 0 = omega arith in
        let row : m + 8 * (k % 2) ≡ m = omega arith in
        rw (row, is_even) (sym (get_or-map (λ v. lane v i) rows m d 0 (omega arith)))
    | inr above ↦
        let is_odd : k % 2 ≡ 1 = omega arith in
        let row : m + 8 * (k % 2) ≡ m + 8 = omega arith in
        rw (row, is_odd) (sym (get_or-map (λ v. lane v i) rows (m + 8) d 0 (omega arith)))
  ]

  -- ---- the shuffle

  -- where the shuffle takes what then is byte k of row j in a block: its row, and its place there
  abbrev from_row : ℕ → ℕ → ℕ
  from_row j k = j / 2 + 8 * (k % 2)

  abbrev from_place : ℕ → ℕ → ℕ
  from_place j k = 8 * (j % 2) + k / 2

  -- the rows after are those before, shuffled, in lanes below n
  abbrev pub IsShuffled : ℕ → List V → List V → Type 0
  IsShuffled n before after =
      (j g k : ℕ) → j < 16 → 16 * g < n → k < 16
      → byte_at_row lane after j (16 * g + k) ≡ byte_at_row lane before (from_row j k) (16 * g + from_place j k)

  -- four shuffles
  pub four_shuffles : (n : ℕ) (r0 r1 r2 r3 r4 : List V) → IsShuffled n r0 r1 → IsShuffled n r1 r2 → IsShuffled n r2 r3
      → IsShuffled n r3 r4 → (j g k : ℕ) → j < 16 → 16 * g < n → k < 16
      → byte_at_row lane r4 j (16 * g + k) ≡ byte_at_row lane r0 k (16 * g + j)
  four_shuffles n r0 r1 r2 r3 r4 e1 e2 e3 e4 j g k hj hg hk =
      let j3 : ℕ = from_row j k in
      let k3 : ℕ = from_place j k in
      let j2 : ℕ = from_row j3 k3 in
      let k2 : ℕ = from_place j3 k3 in
      let j1 : ℕ = from_row j2 k2 in
      let k1 : ℕ = from_place j2 k2 in
      let row : from_row j1 k1 ≡ k = omega arith in
      let place : from_place j1 k1 ≡ j = omega arith in
      e4 j g k hj hg hk
      ∙ e3 j3 g k3 (omega arith) hg (omega arith)
      ∙ e2 j2 g k2 (omega arith) hg (omega arith)
      ∙ e1 j1 g k1 (omega arith) hg (omega arith)
      ∙ rw (row, place) refl

  -- ---- rows that are loaded and stored

  -- a block of a row that was written, and of another one
  pub block_written : (rows : List V) (j g : ℕ) (v : V) → j < length rows
      → block_at_row lane (set rows j v) j g ≡ block_at lane v g
  block_written rows j g v h =
      block_with-same (λ t. byte_at_row lane (set rows j v) j (16 * g + t)) (λ t. lane v (16 * g + t))
      (λ t below.
      ap (λ xs. slice_index xs j) (lane_of-set lane rows (16 * g + t) j v)
      ∙ get_or-set_same (lane_of lane rows (16 * g + t)) j (lane v (16 * g + t)) 0
      (omega (arith, length-lane_of lane rows (16 * g + t))))

  pub block_beside : (rows : List V) (j k g : ℕ) (v : V) → k ≢ j
      → block_at_row lane (set rows j v) k g ≡ block_at_row lane rows k g
  block_beside rows j k g v ne =
      block_with-same (λ t. byte_at_row lane (set rows j v) k (16 * g + t)) (λ t. byte_at_row lane rows k (16 * g + t))
      (λ t below.
      ap (λ xs. slice_index xs k) (lane_of-set lane rows (16 * g + t) j v)
      ∙ get_or-set_other (lane_of lane rows (16 * g + t)) j k (lane v (16 * g + t)) 0 ne)

  -- a block of a row that was read
  pub block_read : (rows : List V) (j g : ℕ) (d : V) → j < length rows → block_at lane (get_or rows j d) g ≡ block_at_row lane rows j g
  block_read rows j g d h =
      block_with-same (λ t. lane (get_or rows j d) (16 * g + t)) (λ t. byte_at_row lane rows j (16 * g + t))
      (λ t below. sym (get_or-map (λ v. lane v (16 * g + t)) rows j d 0 h))

  -- lane i of the words, of which T is the transposed matrix
  pub lane_of-turned : (words T : List V) (i : ℕ) → length words ≡ 16
      → ((t : ℕ) → t < 16 → byte_at_row lane words t i ≡ byte_at_row lane T (i % 16) (16 * (i / 16) + t))
      → lane_of lane words i ≡ block_at_row lane T (i % 16) (i / 16)
  lane_of-turned words T i size turned =
      sym (block_with-each (λ t. byte_at_row lane T (i % 16) (16 * (i / 16) + t)) (lane_of lane words i)
      (length-lane_of lane words i ∙ size) (λ t below. sym (turned t below)))
