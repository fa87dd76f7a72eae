-- What the rows of an element have at half a byte.
use Rattle.std.proofs.Common.{◌≡◌, ℕ, zero, suc, ◌+◌, ◌-◌, ◌*◌, ◌/◌, ◌%◌, ◌^◌, ◌<◌, ◌≤◌, ◌==◌, Bool, List, [], ◌∷◌, length, slice_index, nat_lt, bit_xor, bit_and, refl, sym, ap, ap₂, subst, ◌∙◌, arith, inl, inr}
use Rattle.std.specs.Int.{w8, w128, bit_not, to_be_bytes}
use Rattle.std.specs.Int.Bits.{xor_zero_r}
use Rattle.std.proofs.lemmas.Bool.{ltb-true}
use Rattle.std.proofs.lemmas.Bool.Decides.{nat_tests}
use Rattle.mbj_types.specs.Field.{add, scale, zeros, bits, number, times_x, multiple}
use Rattle.mbj_types.specs.Lanes.{lane_at, IsTableIndex}
use Rattle.mbj_aes.specs.BlockWords.{block_byte, block_at}
use Rattle.mbj_aes.specs.Moves.{byte_or_zero, moved_up, moved_out}
use Rattle.mbj_aes.proofs.BlockWords.{slice_index-block_with}
use Rattle.mbj_aes.proofs.ByteCases.{at_each, same_at_each}
use Rattle.mbj_ghash.specs.declared.tables.TheConstants.{BEFORE, CARRIED, ODD, LAST_TWO, LOW_PAIR, HIGH_PAIR}
use Rattle.mbj_ghash.specs.Inside.{IsInBoth}
use Rattle.mbj_ghash.proofs.Sums.{add_comm, add_assoc, add_zeros, length-scale, scale_true, scale_false}
use Rattle.mbj_ghash.proofs.Multiples.{length-times_x}
use Rattle.mbj_ghash.proofs.Numbers.{block-element, IsBlock-in_register}
use Rattle.mbj_ghash.proofs.ByteSums.{bytes, element-at, bytes-same, bytes-xor, bytes-zero, first, lowest}

-- ---- the product by x

-- a byte of all bits of the lowest bit of y, masked
abbrev pub all_or_none : ℕ → ℕ
all_or_none y = bit_not w8 ((bit_and y 1 + 255) % 2 ^ 8)

pub before-lt : (j : ℕ) → j < 16 → slice_index BEFORE j < 16
before-lt j h = ltb-true (slice_index BEFORE j) 16 (at_each (λ j. nat_lt (slice_index BEFORE j) 16) 16 j refl h)

-- byte j of what the bytes before give
pub carried_byte : (g : ℕ → ℕ) (j : ℕ) → ((i : ℕ) → g i < 256) → j < 16
    → bit_and (all_or_none (g (slice_index BEFORE j))) (slice_index CARRIED j)
    ≡ bit_xor (moved_up 1 (λ i. lowest (g i)) j) (first (moved_out 1 (λ i. lowest (g i)) j))
carried_byte g zero small h =
    same_at_each (λ y. bit_and (all_or_none y) 0xe1) (λ y. bit_xor 0 (first (lowest y))) 256 (g 15) refl (small 15)
carried_byte g (suc j) small h =
    let at : slice_index BEFORE (suc j) ≡ j = same_at_each (λ j. slice_index BEFORE (suc j)) (λ j. j) 15 j refl (omega arith) in
    let mask : slice_index CARRIED (suc j) ≡ 0x80 = same_at_each (λ j. slice_index CARRIED (suc j)) (λ _. 0x80) 15 j refl (omega arith) in
    let up : moved_up 1 (λ i. lowest (g i)) (suc j) ≡ lowest (g j) =
    let back : suc j - 1 ≡ j = omega arith in
    let above : moved_up 1 (λ i. lowest (g i)) (suc j) ≡ lowest (g (suc j - 1)) = grind (arith, nat_tests) in
    above ∙ ap (λ (i : ℕ). lowest (g i)) back in
    let out : moved_out 1 (λ i. lowest (g i)) (suc j) ≡ 0 = grind (arith, nat_tests) in
    ap₂ (λ i m. bit_and (all_or_none (g i)) m) at mask
    ∙ same_at_each (λ y. bit_and (all_or_none y) 0x80) lowest 256 (g j) refl (small j)
    ∙ sym (ap₂ (λ u o. bit_xor u (first o)) up out ∙ xor_zero_r (lowest (g j)))

-- ---- bytes at places that may be none

-- the place d, or none if the bit c is 0
abbrev place : ℕ → ℕ → ℕ
place c d = c * d + (1 - c) * 128

pub place_index : (c d first x : ℕ) → c < 2 → d + first < 16 → x ≡ place c d → IsTableIndex ((x % 2 ^ 8 + first) % 2 ^ 8)
place_index zero d first x h k e = inr (omega arith)
place_index (suc zero) d first x h k e = inl (omega arith)
place_index (suc (suc c)) d first x h k e = absurd (omega arith)

pub place_byte : (c d first x : ℕ) (g : ℕ → ℕ) → c < 2 → d + first < 16 → x ≡ place c d
    → byte_or_zero g ((x % 2 ^ 8 + first) % 2 ^ 8) ≡ c * g (d + first)
place_byte zero d first x g h k e =
    let p : (x % 2 ^ 8 + first) % 2 ^ 8 ≡ 128 + first = omega arith in
    let none : byte_or_zero g (128 + first) ≡ 0 = grind (arith, nat_tests) in
    ap (byte_or_zero g) p ∙ none ∙ omega arith
place_byte (suc zero) d first x g h k e =
    let p : (x % 2 ^ 8 + first) % 2 ^ 8 ≡ d + first = omega arith in
    let some : byte_or_zero g (d + first) ≡ g (d + first) = grind (arith, nat_tests) in
    ap (byte_or_zero g) p ∙ some ∙ omega arith
place_byte (suc (suc c)) d first x g h k e = absurd (omega arith)

-- a table of places for four bytes of each half, of which the bit of m says whether entry m is one
module _ (table : List ℕ) (bit : ℕ → ℕ) (small : (m : ℕ) → m < 4 → bit m < 2) (first : ℕ) (few : first ≤ 4) (at : List ℕ)
    (is : (b q m : ℕ) → b < 2 → q < 4 → m < 4 → slice_index table (16 * b + (4 * q + m)) ≡ place (bit m) (8 * b + q))
    (here : (i : ℕ) → i < 32 → lane_at 8 at i ≡ (slice_index table i % 2 ^ 8 + first) % 2 ^ 8) where
  pub pairs_index : (b j : ℕ) → b < 2 → j < 16 → IsTableIndex (block_byte (lane_at 8) at b j)
  pairs_index b j h k =
      let q : ℕ = j / 4 in
      let m : ℕ = j % 4 in
      let l : m < 4 = omega arith in
      let whole : 4 * q + m ≡ j = omega arith in
      let index : IsTableIndex (block_byte (lane_at 8) at b (4 * q + m)) =
      rw (here (16 * b + (4 * q + m)) (omega arith))
      (place_index (bit m) (8 * b + q) first (slice_index table (16 * b + (4 * q + m))) (small m l) (omega arith)
      (is b q m h (omega arith) l)) in
      subst (λ j. IsTableIndex (block_byte (lane_at 8) at b j)) whole index

  pub pairs_byte : (g : ℕ → ℕ) (b q m : ℕ) → b < 2 → q < 4 → m < 4
      → byte_or_zero g (block_byte (lane_at 8) at b (4 * q + m)) ≡ bit m * g (8 * b + first + q)
  pairs_byte g b q m h k l =
      let e : 8 * b + q + first ≡ 8 * b + first + q = omega arith in
      ap (byte_or_zero g) (here (16 * b + (4 * q + m)) (omega arith))
      ∙ place_byte (bit m) (8 * b + q) first (slice_index table (16 * b + (4 * q + m))) g (small m l) (omega arith) (is b q m h k l)
      ∙ ap (λ (d : ℕ). bit m * g d) e

pub odd_place : (b q m : ℕ) → b < 2 → q < 4 → m < 4 → slice_index ODD (16 * b + (4 * q + m)) ≡ place (m % 2) (8 * b + q)
odd_place b q m h k l =
    let i : ℕ = 16 * b + (4 * q + m) in
    let c : i % 2 ≡ m % 2 = omega arith in
    let d : 8 * (i / 16) + i / 4 % 4 ≡ 8 * b + q = omega arith in
    same_at_each (slice_index ODD) (λ i. place (i % 2) (8 * (i / 16) + i / 4 % 4)) 32 i refl (omega arith) ∙ ap₂ place c d

pub last_two_place : (b q m : ℕ) → b < 2 → q < 4 → m < 4 → slice_index LAST_TWO (16 * b + (4 * q + m)) ≡ place (m / 2) (8 * b + q)
last_two_place b q m h k l =
    let i : ℕ = 16 * b + (4 * q + m) in
    let c : i / 2 % 2 ≡ m / 2 = omega arith in
    let d : 8 * (i / 16) + i / 4 % 4 ≡ 8 * b + q = omega arith in
    same_at_each (slice_index LAST_TWO) (λ i. place (i / 2 % 2) (8 * (i / 16) + i / 4 % 4)) 32 i refl (omega arith) ∙ ap₂ place c d

-- a place that is near
pub near_index : (x n first : ℕ) → x ≡ n → n + first < 16 → IsTableIndex ((x + first) % 2 ^ 8)
near_index x n first e h = inl (omega arith)

pub near_byte : (x n first : ℕ) (g : ℕ → ℕ) → x ≡ n → n + first < 16 → byte_or_zero g ((x + first) % 2 ^ 8) ≡ g (first + n)
near_byte x n first g e h =
    let p : (x + first) % 2 ^ 8 ≡ first + n = omega arith in
    let some : byte_or_zero g (first + n) ≡ g (first + n) = grind (arith, nat_tests) in
    ap (byte_or_zero g) p ∙ some

pub low_pair_place : (n : ℕ) → n < 16 → slice_index LOW_PAIR n ≡ n % 4
low_pair_place n h = same_at_each (slice_index LOW_PAIR) (λ n. n % 4) 16 n refl h

pub high_pair_place : (n : ℕ) → n < 16 → slice_index HIGH_PAIR n ≡ n / 4
high_pair_place n h = same_at_each (slice_index HIGH_PAIR) (λ n. n / 4) 16 n refl h

-- ---- an element that stands in both halves

pub both_bytes : (p : List Bool) (x : List ℕ) → IsInBoth p x → bytes (λ d. block_byte (lane_at 8) x (d / 8) d) 16 ≡ p
both_bytes p x is =
    let block : ℕ → List ℕ = block_at (lane_at 8) x in
    let same : (b : ℕ) → b < 2 → block b ≡ to_be_bytes w128 (number p) =
    λ b h. sym (block-element (block b) (IsBlock-in_register x b)) ∙ ap (λ p. to_be_bytes w128 (number p)) (is b h) in
    bytes-same _ (block_byte (lane_at 8) x 0) 16 (λ d h.
    sym (slice_index-block_with (block_byte (lane_at 8) x (d / 8)) d h)
    ∙ ap (λ ys. slice_index ys d) (same (d / 8) (omega arith) ∙ sym (same 0 (omega arith)))
    ∙ slice_index-block_with (block_byte (lane_at 8) x 0) d h)
    ∙ sym (element-at x 0) ∙ is 0 (omega arith)

-- ---- the multiple by half a byte

-- a bit times an element
bit_bytes : (c k : ℕ) (g : ℕ → ℕ) (p : List Bool) → c < 2 → c ≡ k → bytes g 16 ≡ p → length p ≡ 128
    → bytes (λ i. c * g i) 16 ≡ scale (k == 1) p
bit_bytes zero k g p h e is long =
    bytes-zero (λ i. zero * g i) 16 (λ i l. omega arith)
    ∙ sym (ap (λ (k : ℕ). scale (k == 1) p) (sym e) ∙ scale_false p ∙ ap zeros long)
bit_bytes (suc zero) k g p h e is long =
    bytes-same _ g 16 (λ i l. omega arith) ∙ is ∙ sym (ap (λ (k : ℕ). scale (k == 1) p) (sym e) ∙ scale_true p)
bit_bytes (suc (suc c)) k g p h e is long = absurd (omega arith)

-- the sum of four numbers that the bits of n take
abbrev pub taken_sum : ℕ → ℕ → ℕ → ℕ → ℕ → ℕ
taken_sum n x0 x1 x2 x3 = bit_xor (bit_xor (n % 4 % 2 * x3) (n % 4 / 2 * x2)) (bit_xor (n / 4 % 2 * x1) (n / 4 / 2 * x0))

four_terms : (a b c d : List Bool) → 128 ≤ length d → add (add d c) (add b a) ≡ add a (add b (add c (add d (zeros 128))))
four_terms a b c d h =
    ap₂ add (add_comm d c) (add_comm b a) ∙ add_comm (add c d) (add a b) ∙ add_assoc a b (add c d)
    ∙ ap (λ p. add a (add b (add c p))) (sym (add_zeros 128 d h))

-- the multiples of an element by 1, x, x^2 and x^3
module _ (p0 p1 p2 p3 : List Bool) (long : length p0 ≡ 128) (e1 : p1 ≡ times_x p0) (e2 : p2 ≡ times_x p1) (e3 : p3 ≡ times_x p2) where
  long_1 : length p1 ≡ 128
  long_1 = ap length e1 ∙ length-times_x p0 long

  long_2 : length p2 ≡ 128
  long_2 = ap length e2 ∙ length-times_x p1 long_1

  long_3 : length p3 ≡ 128
  long_3 = ap length e3 ∙ length-times_x p2 long_2

  four_coefficients : (a b c d : Bool)
      → multiple (a ∷ b ∷ c ∷ d ∷ []) p0 ≡ add (scale a p0) (add (scale b p1) (add (scale c p2) (add (scale d p3) (zeros 128))))
  four_coefficients a b c d =
      ap (λ p. add (scale a p0) (multiple (b ∷ c ∷ d ∷ []) p)) (sym e1)
      ∙ ap (λ p. add (scale a p0) (add (scale b p1) (multiple (c ∷ d ∷ []) p))) (sym e2)
      ∙ ap (λ p. add (scale a p0) (add (scale b p1) (add (scale c p2) (multiple (d ∷ []) p)))) (sym e3)

  pub multiple-bytes : (n : ℕ) (g0 g1 g2 g3 : ℕ → ℕ) → n < 16 → bytes g0 16 ≡ p0 → bytes g1 16 ≡ p1 → bytes g2 16 ≡ p2
      → bytes g3 16 ≡ p3 → bytes (λ d. taken_sum n (g0 d) (g1 d) (g2 d) (g3 d)) 16 ≡ multiple (bits 4 n) p0
  unfolding bits
  multiple-bytes n g0 g1 g2 g3 h f0 f1 f2 f3 =
      let x : ℕ → ℕ = λ d. bit_xor (n % 4 % 2 * g3 d) (n % 4 / 2 * g2 d) in
      let y : ℕ → ℕ = λ d. bit_xor (n / 4 % 2 * g1 d) (n / 4 / 2 * g0 d) in
      let c : ℕ → Bool = λ k. n / 2 ^ k % 2 == 1 in
      bytes-xor x y 16
      ∙ ap₂ add (bytes-xor (λ d. n % 4 % 2 * g3 d) (λ d. n % 4 / 2 * g2 d) 16
      ∙ ap₂ add (bit_bytes (n % 4 % 2) (n / 2 ^ 0 % 2) g3 p3 (omega arith) (omega arith) f3 long_3)
      (bit_bytes (n % 4 / 2) (n / 2 ^ 1 % 2) g2 p2 (omega arith) (omega arith) f2 long_2))
      (bytes-xor (λ d. n / 4 % 2 * g1 d) (λ d. n / 4 / 2 * g0 d) 16
      ∙ ap₂ add (bit_bytes (n / 4 % 2) (n / 2 ^ 2 % 2) g1 p1 (omega arith) (omega arith) f1 long_1)
      (bit_bytes (n / 4 / 2) (n / 2 ^ 3 % 2) g0 p0 (omega arith) (omega arith) f0 long))
      ∙ four_terms (scale (c 3) p0) (scale (c 2) p1) (scale (c 1) p2) (scale (c 0) p3) (omega (arith, length-scale (c 0) p3, long_3))
      ∙ sym (four_coefficients (c 3) (c 2) (c 1) (c 0))

-- ---- rows

pub each_of_eight : (P : ℕ → Type 0) → P 0 → P 1 → P 2 → P 3 → P 4 → P 5 → P 6 → P 7 → (k : ℕ) → k < 8 → P k
each_of_eight P a b c d e f g h zero l = a
each_of_eight P a b c d e f g h (suc zero) l = b
each_of_eight P a b c d e f g h (suc (suc zero)) l = c
each_of_eight P a b c d e f g h (suc (suc (suc zero))) l = d
each_of_eight P a b c d e f g h (suc (suc (suc (suc zero)))) l = e
each_of_eight P a b c d e f g h (suc (suc (suc (suc (suc zero))))) l = f
each_of_eight P a b c d e f g h (suc (suc (suc (suc (suc (suc zero)))))) l = g
each_of_eight P a b c d e f g h (suc (suc (suc (suc (suc (suc (suc zero))))))) l = h
each_of_eight P a b c d e f g h (suc (suc (suc (suc (suc (suc (suc (suc k)))))))) l = absurd (omega arith)

-- what `pairs` gives, and then `row`
abbrev pub ArePairs : List ℕ → List ℕ → ℕ → List ℕ → Type 0
ArePairs one two first r = (b q m : ℕ) → b < 2 → q < 4 → m < 4 → block_byte (lane_at 8) r b (4 * q + m)
    ≡ bit_xor (m % 2 * block_byte (lane_at 8) one b (8 * b + first + q)) (m / 2 * block_byte (lane_at 8) two b (8 * b + first + q))

abbrev pub IsRow : List ℕ → List ℕ → ℕ → List ℕ → Type 0
IsRow low high first r = (b n : ℕ) → b < 2 → n < 16 → block_byte (lane_at 8) r b n
    ≡ bit_xor (block_byte (lane_at 8) low b (first + n % 4)) (block_byte (lane_at 8) high b (first + n / 4))

module _ (x0 x1 x2 x3 low high : List ℕ) (first : ℕ) (lows : ArePairs x3 x2 first low) (highs : ArePairs x1 x0 first high) where
  -- row k has byte k of each half
  pub row_entry : (q k : ℕ) (r : List ℕ) → q < 4 → k ≡ first + q → IsRow low high (4 * q) r → (d n : ℕ) → d < 16 → d % 8 ≡ k → n < 16
      → let g : List ℕ → ℕ = λ x. block_byte (lane_at 8) x (d / 8) d in
      block_byte (lane_at 8) r (d / 8) n ≡ taken_sum n (g x0) (g x1) (g x2) (g x3)
  row_entry q k r h e is d n l f m =
      let b : ℕ = d / 8 in
      let hb : b < 2 = omega arith in
      let at : 8 * b + first + q ≡ d = omega arith in
      is b n hb m
      ∙ ap₂ bit_xor
      (lows b q (n % 4) hb h (omega arith)
      ∙ ap (λ (d : ℕ). bit_xor (n % 4 % 2 * block_byte (lane_at 8) x3 b d) (n % 4 / 2 * block_byte (lane_at 8) x2 b d)) at)
      (highs b q (n / 4) hb h (omega arith)
      ∙ ap (λ (d : ℕ). bit_xor (n / 4 % 2 * block_byte (lane_at 8) x1 b d) (n / 4 / 2 * block_byte (lane_at 8) x0 b d)) at)
