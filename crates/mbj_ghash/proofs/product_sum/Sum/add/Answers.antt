-- All places have their products added.
use Rattle.std.proofs.Common.{◌≡◌, ℕ, ◌+◌, ◌*◌, ◌/◌, ◌%◌, ◌<◌, List, slice_index, bit_xor, ap, ap₂, ◌∙◌, sym, arith}
use Rattle.mbj_types.specs.Field.{add}
use Rattle.mbj_types.specs.Ghash.{element}
use Rattle.mbj_types.specs.Lanes.{lane_at}
use Rattle.mbj_aes.specs.BlockWords.{block_byte, block_at}
use Rattle.mbj_aes.specs.Moves.{byte_or_zero}
use Rattle.mbj_ghash.specs.declared.rows.Register.{Register}
use Rattle.mbj_ghash.specs.declared.rows.Rows.{Rows}
use Rattle.mbj_ghash.specs.Inside.{register, sum_of}
use Rattle.mbj_ghash.proofs.WeightedSums.{weighted-same, weighted-add}
use Rattle.mbj_ghash.proofs.ByteSums.{bytes, element-at, bytes-xor}
use Rattle.mbj_ghash.proofs.BlockSums.{element-told, row_byte, table_product, byte-here}
use Rattle.mbj_ghash.proofs.product_sum.Sum.add.Goals as goal

pub returns : goal.returns
returns c h are =
    let x : ℕ → ℕ = slice_index c.args.block.now in
    let small : (j : ℕ) → x j < 256 = λ j. c.fits-block j in
    let rows : Rows = c.args.rows.now in
    let old : List Register = c.args.self.now.places in
    let both : (b j : ℕ) → b < 2 → j < 16 → block_byte (lane_at 8) c.in_each_block-both.result b j ≡ x j = c.in_each_block-both.ensures in
    let low : (b j : ℕ) → b < 2 → j < 16 → block_byte (lane_at 8) c.low_half-low.result b j ≡ x j % 16 =
    λ b j k l. c.low_half-low.ensures (16 * b + j) (omega arith) ∙ ap (λ (y : ℕ). y % 16) (both b j k l) in
    let high : (b j : ℕ) → b < 2 → j < 16 → block_byte (lane_at 8) c.high_half-high.result b j ≡ x j / 16 =
    λ b j k l. c.high_half-high.ensures (16 * b + j) (omega arith) ∙ ap (λ (y : ℕ). y / 16) (both b j k l) in
    let product : ℕ → ℕ → ℕ = λ d j. bit_xor (row_byte rows.low d (x j % 16)) (row_byte rows.high d (x j / 16)) in
    weighted-same _ _ 16 (λ d k.
    let before : ℕ → ℕ = block_byte (lane_at 8) (register old (d % 8)) (d / 8) in
    element-told (register c.loop-d.self.places (d % 8)) (d / 8) (λ j. bit_xor (before j) (product d j)) (λ j l.
    let b : d / 8 < 2 = omega arith in
    c.loop-d.invariant.done (d % 8) (d / 8) j (omega arith) b l
    ∙ ap (bit_xor (before j)) (ap₂ bit_xor
    (ap (byte_or_zero (row_byte rows.low d)) (low (d / 8) j b l) ∙ byte-here (row_byte rows.low d) (x j % 16) (omega arith))
    (ap (byte_or_zero (row_byte rows.high d)) (high (d / 8) j b l)
    ∙ byte-here (row_byte rows.high d) (x j / 16) (omega (arith, small j)))))
    ∙ bytes-xor before (product d) 16 ∙ ap (λ p. add p (bytes (product d) 16)) (sym (element-at (register old (d % 8)) (d / 8))))
    ∙ weighted-add (λ d. element (block_at (lane_at 8) (register old (d % 8)) (d / 8))) (λ d. bytes (product d) 16) 16
    ∙ ap (add (sum_of old)) (table_product h rows c.args.block.now are small)
