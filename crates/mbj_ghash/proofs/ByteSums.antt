-- Elements by their bytes: byte i counts x^(8 i).
use Rattle.std.proofs.Common.{◌≡◌, ℕ, zero, suc, ◌+◌, ◌-◌, ◌*◌, ◌/◌, ◌%◌, ◌^◌, ◌<◌, ◌≤◌, ◌==◌, Bool, true, false, List, ◌++◌, length, slice_index, nat_lt, if◌then◌else◌, bit_xor, refl, sym, ap, ap₂, ◌∙◌, arith, inl, inr}
use Rattle.std.specs.Int.{w128, from_be_bytes}
use Rattle.std.proofs.lemmas.Bool.{cases_lt}
use Rattle.std.proofs.lemmas.Bool.Decides.{nat_tests}
use Rattle.mbj_types.specs.Field.{add, zeros, bits, number, product, times_x, times_power, multiple, weighted}
use Rattle.mbj_types.specs.Ghash.{element}
use Rattle.mbj_types.specs.Lanes.{lane_at, lane_at-lt}
use Rattle.mbj_aes.specs.BlockWords.{block_with, block_byte, block_at}
use Rattle.mbj_aes.specs.Moves.{moved_up, moved_out}
use Rattle.mbj_aes.specs.Tower.{by_halves}
use Rattle.mbj_aes.proofs.BlockWords.{slice_index-block_with}
use Rattle.mbj_aes.proofs.ByteCases.{each_below, same_at_each}
use Rattle.mbj_ghash.specs.declared.tables.TheConstants.{FOLD_LOW, FOLD_HIGH, FOLD_NEXT_LOW, FOLD_NEXT_HIGH}
use Rattle.mbj_ghash.proofs.Sums.{zeros_add, add_zeros}
use Rattle.mbj_ghash.proofs.Multiples.{multiple-append, long-power, times_power-add}
use Rattle.mbj_ghash.proofs.Elements.{length-bits, bits-xor, bits-append, bits-low, element-number}
use Rattle.mbj_ghash.proofs.Reductions.{reduced, length-reduced, reduced-whole, reduced-add, product-multiple}
use Rattle.mbj_ghash.proofs.Folding.{one, multiple-one, folded, times_x128, times_power-plus}
use Rattle.mbj_ghash.proofs.Numbers.{first_number, whole_number}
use Rattle.mbj_ghash.proofs.WeightedSums.{weighted-same, long-weighted, weighted-add, power-zeros, weighted-zeros, weighted-power, weighted-split}

-- the element with the byte y and zeros
abbrev pub byte : ℕ → List Bool
byte y = reduced (bits 8 y)

-- the sum of the first n bytes
abbrev pub bytes : (ℕ → ℕ) → ℕ → List Bool
bytes g n = weighted (λ i. byte (g i)) n

-- ---- a block by its bytes

-- the multiple of v by the first k bytes
multiple-first : (xs : List ℕ) (v : List Bool) (k : ℕ) → length v ≡ 128 → ((i : ℕ) → i < k → slice_index xs i < 256)
    → multiple (bits (8 * k) (first_number k xs)) v ≡ weighted (λ i. multiple (bits 8 (slice_index xs i)) v) k
unfolding bits weighted
multiple-first xs v zero h small = refl
multiple-first xs v (suc k) h small =
    let n : ℕ = first_number k xs in
    let b : ℕ = slice_index xs k in
    let e : 8 * suc k ≡ 8 * k + 8 = omega arith in
    let last : b < 256 = small k (omega arith) in
    let q : (n * 256 + b) / 2 ^ 8 ≡ n = omega arith in
    ap (λ (m : ℕ). multiple (bits m (n * 256 + b)) v) e
    ∙ ap (λ p. multiple p v) (bits-append (8 * k) 8 (n * 256 + b) ∙ ap₂ (λ p q. p ++ q) (ap (bits (8 * k)) q) (bits-low 8 n b))
    ∙ multiple-append (bits (8 * k) n) (bits 8 b) v h
    ∙ ap₂ (λ p (m : ℕ). add p (times_power m (multiple (bits 8 b) v)))
    (multiple-first xs v k h (λ i l. small i (omega arith))) (length-bits (8 * k) n)

-- the product of a block
pub product-bytes : (xs : List ℕ) (v : List Bool) → length v ≡ 128 → ((i : ℕ) → i < 16 → slice_index xs i < 256)
    → product (element xs) v ≡ weighted (λ i. multiple (bits 8 (slice_index xs i)) v) 16
product-bytes xs v h small =
    product-multiple (element xs) v (length-bits 128 (from_be_bytes w128 xs)) h
    ∙ ap (λ (n : ℕ). multiple (bits 128 n) v) (whole_number xs) ∙ multiple-first xs v 16 h small

-- a block
pub element-bytes : (xs : List ℕ) → ((i : ℕ) → i < 16 → slice_index xs i < 256) → element xs ≡ bytes (slice_index xs) 16
element-bytes xs small =
    sym (multiple-one (element xs) ∙ reduced-whole (element xs) (length-bits 128 (from_be_bytes w128 xs)))
    ∙ ap (λ (n : ℕ). multiple (bits 128 n) one) (whole_number xs) ∙ multiple-first xs one 16 refl small
    ∙ weighted-same _ _ 16 (λ i h. multiple-one (bits 8 (slice_index xs i)))

pub element-with : (g : ℕ → ℕ) → ((i : ℕ) → g i < 256) → element (block_with g) ≡ bytes g 16
element-with g small =
    let at : (i : ℕ) → i < 16 → slice_index (block_with g) i ≡ g i = slice_index-block_with g in
    element-bytes (block_with g) (λ i h. rw (at i h) (small i)) ∙ weighted-same _ _ 16 (λ i h. ap byte (at i h))

-- a block in a register
pub element-at : (x : List ℕ) (b : ℕ) → element (block_at (lane_at 8) x b) ≡ bytes (block_byte (lane_at 8) x b) 16
element-at x b = element-with (block_byte (lane_at 8) x b) (λ i. lane_at-lt 8 x (16 * b + i))

-- ---- a xor of bytes is their sum

byte-xor : (a b : ℕ) → byte (bit_xor a b) ≡ add (byte a) (byte b)
byte-xor a b = ap reduced (bits-xor 8 a b) ∙ reduced-add (bits 8 a) (bits 8 b)

pub bytes-same : (f g : ℕ → ℕ) (n : ℕ) → ((i : ℕ) → i < n → f i ≡ g i) → bytes f n ≡ bytes g n
bytes-same f g n same = weighted-same (λ i. byte (f i)) (λ i. byte (g i)) n (λ i h. ap byte (same i h))

pub bytes-xor : (f g : ℕ → ℕ) (n : ℕ) → bytes (λ i. bit_xor (f i) (g i)) n ≡ add (bytes f n) (bytes g n)
bytes-xor f g n =
    weighted-same _ _ n (λ i h. byte-xor (f i) (g i)) ∙ weighted-add (λ i. byte (f i)) (λ i. byte (g i)) n

pub moved-same : (n : ℕ) (f g : ℕ → ℕ) (j : ℕ) → j < 16 → ((i : ℕ) → i < 16 → f i ≡ g i) → moved_up n f j ≡ moved_up n g j
moved-same n f g j h same = ap (λ (x : ℕ). if nat_lt j n then 0 else x) (same (j - n) (omega arith))

pub out-same : (n : ℕ) (f g : ℕ → ℕ) (j : ℕ) → n ≤ 16 → ((i : ℕ) → i < 16 → f i ≡ g i) → moved_out n f j ≡ moved_out n g j
out-same n f g j few same = elim (cases_lt j n) [
  | inl below ↦ ap (λ (x : ℕ). if nat_lt j n then x else 0) (same (16 - n + j) (omega arith))
  | inr above ↦ grind (arith, nat_tests)
]

byte-zero : byte 0 ≡ zeros 128
unfolding bits reduced times_x
byte-zero = refl

pub bytes-zero : (f : ℕ → ℕ) (n : ℕ) → ((i : ℕ) → i < n → f i ≡ 0) → bytes f n ≡ zeros 128
bytes-zero f n none = weighted-same (λ i. byte (f i)) (λ _. zeros 128) n (λ i h. ap byte (none i h) ∙ byte-zero) ∙ weighted-zeros n

-- ---- moves

-- n bytes and what is above them
module _ (g : ℕ → ℕ) (d : ℕ) (few : d ≤ 16) where
  up-zero : (i : ℕ) → i < d → moved_up d g i ≡ 0
  up-zero i h = grind (arith, nat_tests)

  up-rest : (i : ℕ) → moved_up d g (d + i) ≡ g i
  up-rest i =
      let e : d + i - d ≡ i = omega arith in
      let f : moved_up d g (d + i) ≡ g (d + i - d) = grind (arith, nat_tests) in f ∙ ap g e

  out-first : (i : ℕ) → i < d → moved_out d g i ≡ g (16 - d + i)
  out-first i h = grind (arith, nat_tests)

  out-zero : (i : ℕ) → moved_out d g (d + i) ≡ 0
  out-zero i = grind (arith, nat_tests)

  up-bytes : bytes (moved_up d g) 16 ≡ times_power (8 * d) (bytes g (16 - d))
  up-bytes =
      let whole : 16 ≡ d + (16 - d) = omega arith in
      ap (bytes (moved_up d g)) whole ∙ weighted-split (λ i. byte (moved_up d g i)) d (16 - d)
      ∙ ap₂ (λ p q. add p (times_power (8 * d) q)) (bytes-zero (moved_up d g) d up-zero)
      (bytes-same (λ i. moved_up d g (d + i)) g (16 - d) (λ i h. up-rest i))
      ∙ zeros_add 128 (times_power (8 * d) (bytes g (16 - d))) (long-power (8 * d) (bytes g (16 - d)) (long-weighted _ (16 - d)))

  out-bytes : bytes (moved_out d g) 16 ≡ bytes (λ i. g (16 - d + i)) d
  out-bytes =
      let whole : 16 ≡ d + (16 - d) = omega arith in
      ap (bytes (moved_out d g)) whole ∙ weighted-split (λ i. byte (moved_out d g i)) d (16 - d)
      ∙ ap₂ (λ p q. add p (times_power (8 * d) q)) (bytes-same (moved_out d g) (λ i. g (16 - d + i)) d out-first)
      (bytes-zero (λ i. moved_out d g (d + i)) (16 - d) (λ i h. out-zero i))
      ∙ ap (add (bytes (λ i. g (16 - d + i)) d)) (power-zeros (8 * d))
      ∙ add_zeros 128 (bytes (λ i. g (16 - d + i)) d) (long-weighted _ d)

  -- what stays and what leaves
  pub move : add (bytes (moved_up d g) 16) (times_power 128 (bytes (moved_out d g) 16)) ≡ times_power (8 * d) (bytes g 16)
  move =
      let k : ℕ = 16 - d in
      let above : List Bool = bytes (λ i. g (k + i)) d in
      let whole : 16 ≡ k + d = omega arith in
      let e : 8 * k + 8 * d ≡ 128 = omega arith in
      ap₂ (λ p q. add p (times_power 128 q)) up-bytes out-bytes
      ∙ ap (add (times_power (8 * d) (bytes g k)))
      (ap (λ (m : ℕ). times_power m above) (sym e) ∙ sym (times_power-plus (8 * k) (8 * d) above))
      ∙ sym (ap (λ (m : ℕ). times_power (8 * d) (bytes g m)) whole ∙ ap (times_power (8 * d)) (weighted-split (λ i. byte (g i)) k d)
      ∙ times_power-add (8 * d) (bytes g k) (times_power (8 * k) above))

  -- if nothing leaves
  pub move_whole : ((i : ℕ) → i < d → g (16 - d + i) ≡ 0) → bytes (moved_up d g) 16 ≡ times_power (8 * d) (bytes g 16)
  move_whole none =
      let nothing : bytes (moved_out d g) 16 ≡ zeros 128 = out-bytes ∙ bytes-zero (λ i. g (16 - d + i)) d none in
      sym (add_zeros 128 (bytes (moved_up d g) 16) (long-weighted (λ i. byte (moved_up d g i)) 16))
      ∙ ap (add (bytes (moved_up d g) 16)) (sym (ap (times_power 128) nothing ∙ power-zeros 128)) ∙ move

-- ---- x^128 times bytes

-- a test that the checker computes at each number below n
pub same_elements : (f g : ℕ → List Bool) (n y : ℕ) → each_below (λ y. number (f y) == number (g y)) n ≡ true → y < n
    → length (f y) ≡ 128 → length (g y) ≡ 128 → f y ≡ g y
same_elements f g n y e h l m =
    sym (element-number (f y) l) ∙ ap (bits 128) (same_at_each (λ y. number (f y)) (λ y. number (g y)) n y e h)
    ∙ element-number (g y) m

abbrev pub first : ℕ → ℕ
first = by_halves FOLD_LOW FOLD_HIGH

abbrev pub next : ℕ → ℕ
next = by_halves FOLD_NEXT_LOW FOLD_NEXT_HIGH

byte_folded : (y : ℕ) → y < 256 → times_power 128 (byte y) ≡ add (byte (first y)) (times_power 8 (byte (next y)))
unfolding bits reduced times_x times_power
byte_folded y h =
    times_x128 (byte y) (length-reduced (bits 8 y))
    ∙ same_elements (λ y. folded (byte y)) (λ y. add (byte (first y)) (times_power 8 (byte (next y)))) 256 y refl h refl refl

pub bytes_folded : (g : ℕ → ℕ) → ((i : ℕ) → g i < 256) → g 15 ≡ 0
    → times_power 128 (bytes g 16) ≡ add (bytes (λ i. first (g i)) 16) (bytes (moved_up 1 (λ i. next (g i))) 16)
bytes_folded g small last =
    weighted-power 128 (λ i. byte (g i)) 16 ∙ weighted-same _ _ 16 (λ i h. byte_folded (g i) (small i))
    ∙ weighted-add (λ i. byte (first (g i))) (λ i. times_power 8 (byte (next (g i)))) 16
    ∙ ap (add (bytes (λ i. first (g i)) 16)) (sym (weighted-power 8 (λ i. byte (next (g i))) 16)
    ∙ sym (move_whole (λ i. next (g i)) 1 (omega arith)
    (λ i h. let e : 16 - 1 + i ≡ 15 = omega arith in ap (λ (k : ℕ). next (g k)) e ∙ ap next last)))

-- ---- x times bytes

-- the lowest bit of a byte as the highest
abbrev pub lowest : ℕ → ℕ
lowest y = y % 2 * 128

byte_halved : (y : ℕ) → y < 256 → times_x (byte y) ≡ add (byte (y / 2)) (times_power 8 (byte (lowest y)))
unfolding bits reduced times_x times_power
byte_halved y h =
    same_elements (λ y. times_x (byte y)) (λ y. add (byte (y / 2)) (times_power 8 (byte (lowest y)))) 256 y refl h refl refl

-- what leaves has no second byte
next-out : (g : ℕ → ℕ) → ((i : ℕ) → g i < 256) → (i : ℕ) → next (moved_out 1 (λ i. lowest (g i)) i) ≡ 0
next-out g small i = elim (cases_lt i 1) [
  | inl below ↦
      let e : moved_out 1 (λ i. lowest (g i)) i ≡ lowest (g (15 + i)) = grind (arith, nat_tests) in
      ap next e ∙ same_at_each (λ y. next (lowest y)) (λ _. 0) 256 (g (15 + i)) refl (small (15 + i))
  | inr above ↦ let e : moved_out 1 (λ i. lowest (g i)) i ≡ 0 = grind (arith, nat_tests) in ap next e
]

none_either : (b : Bool) → ◌≡◌ {A = ℕ} (if b then 0 else 0) 0
none_either true = refl
none_either false = refl

pub bytes_halved : (g : ℕ → ℕ) → ((i : ℕ) → g i < 256)
    → let low : ℕ → ℕ = λ i. lowest (g i) in
    times_x (bytes g 16) ≡ bytes (λ j. bit_xor (g j / 2) (bit_xor (moved_up 1 low j) (first (moved_out 1 low j)))) 16
unfolding times_power
bytes_halved g small =
    let low : ℕ → ℕ = λ i. lowest (g i) in
    let out : ℕ → ℕ = moved_out 1 low in
    let folds : ℕ → ℕ = λ j. first (out j) in
    let out_lt : (j : ℕ) → out j < 256 = λ j. grind (arith, nat_tests) in
    let gone : (j : ℕ) → j < 16 → moved_up 1 (λ i. next (out i)) j ≡ 0 =
    λ j h. ap (λ (x : ℕ). if nat_lt j 1 then 0 else x) (next-out g small (j - 1)) ∙ none_either (nat_lt j 1) in
    weighted-power 1 (λ i. byte (g i)) 16 ∙ weighted-same _ _ 16 (λ i h. byte_halved (g i) (small i))
    ∙ weighted-add (λ i. byte (g i / 2)) (λ i. times_power 8 (byte (low i))) 16
    ∙ ap (add (bytes (λ i. g i / 2) 16)) (sym (weighted-power 8 (λ i. byte (low i)) 16) ∙ sym (move low 1 (omega arith))
    ∙ ap (add (bytes (moved_up 1 low) 16)) (bytes_folded out out_lt refl
    ∙ ap (add (bytes folds 16)) (bytes-zero (moved_up 1 (λ i. next (out i))) 16 gone)
    ∙ add_zeros 128 (bytes folds 16) (long-weighted (λ j. byte (folds j)) 16)) ∙ sym (bytes-xor (moved_up 1 low) folds 16))
    ∙ sym (bytes-xor (λ j. g j / 2) (λ j. bit_xor (moved_up 1 low j) (folds j)) 16)
