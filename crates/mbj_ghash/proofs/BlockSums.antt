-- Sums of registers, and the product of a block by tables.
use Rattle.std.proofs.Common.{◌≡◌, ℕ, ◌+◌, ◌*◌, ◌/◌, ◌%◌, ◌^◌, ◌<◌, ◌≤◌, Bool, List, [], length, replicate, slice_index, bit_xor, sym, ap, ap₂, ◌∙◌, arith}
use Rattle.std.specs.Int.{w128, from_be_bytes}
use Rattle.std.proofs.lemmas.Bool.Decides.{nat_tests}
use Rattle.std.proofs.lemmas.Simd.{get_or-replicate}
use Rattle.mbj_types.specs.Field.{add, zeros, bits, product, times_power, multiple, weighted}
use Rattle.mbj_types.specs.Ghash.{element}
use Rattle.mbj_types.specs.Lanes.{lane_at, lane_at-lt}
use Rattle.mbj_types.proofs.Vectors.{replicate_at}
use Rattle.mbj_aes.specs.BlockWords.{block_byte, block_at}
use Rattle.mbj_aes.specs.Moves.{byte_or_zero}
use Rattle.mbj_ghash.specs.declared.rows.Register.{Register}
use Rattle.mbj_ghash.specs.declared.rows.Rows.{Rows}
use Rattle.mbj_ghash.specs.Inside.{AreRows, AreRowsOf, register, sum_of}
use Rattle.mbj_ghash.proofs.Sums.{add_comm}
use Rattle.mbj_ghash.proofs.Multiples.{multiple-append}
use Rattle.mbj_ghash.proofs.Elements.{length-bits, bits-append, bits-low}
use Rattle.mbj_ghash.proofs.Folding.{times_power-multiple}
use Rattle.mbj_ghash.proofs.WeightedSums.{weighted-same, weighted-add, weighted-zeros, weighted-turned}
use Rattle.mbj_ghash.proofs.ByteSums.{byte, bytes, element-at, element-with, bytes-same, bytes-xor, bytes-zero, product-bytes}

-- a xor of registers of n bytes
pub element-xored : (n : ℕ) (r x y : List ℕ) (b : ℕ) → 16 * b + 16 ≤ n
    → ((i : ℕ) → i < n → lane_at 8 r i ≡ bit_xor (lane_at 8 x i) (lane_at 8 y i))
    → element (block_at (lane_at 8) r b) ≡ add (element (block_at (lane_at 8) x b)) (element (block_at (lane_at 8) y b))
element-xored n r x y b h is =
    element-at r b ∙ bytes-same _ _ 16 (λ j l. is (16 * b + j) (omega arith))
    ∙ bytes-xor (block_byte (lane_at 8) x b) (block_byte (lane_at 8) y b) 16
    ∙ sym (ap₂ add (element-at x b) (element-at y b))

-- a block that is told byte by byte
pub element-told : (r : List ℕ) (b : ℕ) (g : ℕ → ℕ) → ((j : ℕ) → j < 16 → block_byte (lane_at 8) r b j ≡ g j)
    → element (block_at (lane_at 8) r b) ≡ bytes g 16
element-told r b g same = element-at r b ∙ bytes-same _ g 16 same

-- registers of zeros
pub element-none : (b : ℕ) → b < 2 → element (block_at (lane_at 8) (replicate 32 0) b) ≡ zeros 128
element-none b h =
    element-at (replicate 32 0) b
    ∙ bytes-zero (block_byte (lane_at 8) (replicate 32 0) b) 16 (λ j l. replicate_at 8 32 0 (16 * b + j) (omega arith) (omega arith))

pub sum_of-none : sum_of (replicate 8 (record { bytes = replicate 32 0 })) ≡ zeros 128
sum_of-none =
    let none : Register = record { bytes = replicate 32 0 } in
    weighted-same _ (λ _. zeros 128) 16 (λ d h.
    ap (λ (r : Register). element (block_at (lane_at 8) r.bytes (d / 8)))
    (get_or-replicate 8 (d % 8) none (record { bytes = [] }) (omega arith))
    ∙ element-none (d / 8) (omega arith))
    ∙ weighted-zeros 16

-- ---- the product by tables

-- a multiple by the two halves of a byte
halves : (y : ℕ) (v : List Bool) → length v ≡ 128
    → add (multiple (bits 4 (y % 16)) (times_power 4 v)) (multiple (bits 4 (y / 16)) v) ≡ multiple (bits 8 y) v
halves y v h =
    let e : y ≡ y / 16 * 2 ^ 4 + y % 16 = omega arith in
    let low : bits 4 y ≡ bits 4 (y % 16) = ap (bits 4) e ∙ bits-low 4 (y / 16) (y % 16) in
    add_comm (multiple (bits 4 (y % 16)) (times_power 4 v)) (multiple (bits 4 (y / 16)) v)
    ∙ sym (ap (λ p. multiple p v) (bits-append 4 4 y) ∙ multiple-append (bits 4 (y / 16)) (bits 4 y) v h
    ∙ ap₂ (λ (n : ℕ) p. add (multiple (bits 4 (y / 16)) v) (times_power n (multiple p v))) (length-bits 4 (y / 16)) low
    ∙ ap (add (multiple (bits 4 (y / 16)) v)) (times_power-multiple 4 (bits 4 (y % 16)) v h))

-- the byte at place n of row d
abbrev pub row_byte : List Register → ℕ → ℕ → ℕ
row_byte rows d = block_byte (lane_at 8) (register rows (d % 8)) (d / 8)

-- rows at half a byte of each byte of a block
rows_sum : (rows : List Register) (v : List Bool) (g : ℕ → ℕ) → AreRows v rows → ((j : ℕ) → g j < 16)
    → weighted (λ d. bytes (λ j. row_byte rows d (g j)) 16) 16 ≡ weighted (λ j. multiple (bits 4 (g j)) v) 16
rows_sum rows v g are small =
    weighted-turned (λ d j. byte (row_byte rows d (g j))) 16 16
    ∙ weighted-same _ _ 16 (λ j h.
    sym (element-with (λ d. row_byte rows d (g j)) (λ d. lane_at-lt 8 (register rows (d % 8)) (16 * (d / 8) + g j)))
    ∙ are (g j) (small j))

pub table_product : (h : List ℕ) (rows : Rows) (xs : List ℕ) → AreRowsOf h rows → ((i : ℕ) → slice_index xs i < 256)
    → let x : ℕ → ℕ = slice_index xs in
    weighted (λ d. bytes (λ j. bit_xor (row_byte rows.low d (x j % 16)) (row_byte rows.high d (x j / 16))) 16) 16
    ≡ product (element xs) (element h)
table_product h rows xs are small =
    let x : ℕ → ℕ = slice_index xs in
    let v : List Bool = element h in
    let long : length (element h) ≡ 128 = length-bits 128 (from_be_bytes w128 h) in
    let low : ℕ → ℕ → ℕ = λ d j. row_byte rows.low d (x j % 16) in
    let high : ℕ → ℕ → ℕ = λ d j. row_byte rows.high d (x j / 16) in
    weighted-same _ _ 16 (λ d k. bytes-xor (low d) (high d) 16)
    ∙ weighted-add (λ d. bytes (low d) 16) (λ d. bytes (high d) 16) 16
    ∙ ap₂ add (rows_sum rows.low (times_power 4 v) (λ j. x j % 16) are.low (λ j. omega arith))
    (rows_sum rows.high v (λ j. x j / 16) are.high (λ j. omega (arith, small j)))
    ∙ sym (weighted-add (λ j. multiple (bits 4 (x j % 16)) (times_power 4 v)) (λ j. multiple (bits 4 (x j / 16)) v) 16)
    ∙ weighted-same _ _ 16 (λ j k. halves (x j) v long)
    ∙ sym (product-bytes xs v long (λ i k. small i))

-- a place that is a byte's
pub byte-here : (f : ℕ → ℕ) (n : ℕ) → n < 16 → byte_or_zero f n ≡ f n
byte-here f n h = grind (arith, nat_tests)
