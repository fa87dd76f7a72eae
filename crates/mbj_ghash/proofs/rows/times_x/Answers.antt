-- The bytes are halved, and the lowest bits come to the next ones.
use Rattle.std.proofs.Common.{◌≡◌, ℕ, ◌+◌, ◌*◌, ◌/◌, ◌%◌, ◌^◌, ◌<◌, slice_index, bit_xor, bit_and, ap, ap₂, ◌∙◌, sym, arith}
use Rattle.std.specs.Int.{w8, bit_not}
use Rattle.mbj_types.specs.Lanes.{lane_at, lane_at-lt}
use Rattle.mbj_types.proofs.Vectors.{replicate_at}
use Rattle.mbj_aes.specs.BlockWords.{block_byte}
use Rattle.mbj_aes.specs.Moves.{moved_up, moved_out}
use Rattle.mbj_ghash.specs.declared.tables.TheConstants.{BEFORE}
use Rattle.mbj_types.specs.Field.{times_x}
use Rattle.mbj_ghash.proofs.ByteSums.{element-at, bytes-same, bytes_halved, first, lowest}
use Rattle.mbj_ghash.proofs.TableEntries.{all_or_none, before-lt, carried_byte}
use Rattle.mbj_ghash.proofs.rows.times_x.Goals as goal

pub returns : goal.returns
returns c p is b h =
    let g : ℕ → ℕ = block_byte (lane_at 8) c.args.v b in
    let small : (i : ℕ) → g i < 256 = λ i. lane_at-lt 8 c.args.v (16 * b + i) in
    let low : ℕ → ℕ = λ i. lowest (g i) in
    let spread : (i : ℕ) → i < 32 → lane_at 8 c.inverted-all_or_none.result i ≡ all_or_none (lane_at 8 c.args.v i) =
    λ i l.
    c.inverted-all_or_none.ensures i l
    ∙ ap (bit_not w8) (c.plus.ensures i l
    ∙ ap₂ (λ (x y : ℕ). (x + y) % 2 ^ 8)
    (c.anded-lowest.ensures i l ∙ ap (bit_and (lane_at 8 c.args.v i)) (replicate_at 8 32 1 i (omega arith) l))
    (replicate_at 8 32 255 i (omega arith) l)) in
    let byte : (j : ℕ) → j < 16
    → block_byte (lane_at 8) c.xored.result b j ≡ bit_xor (g j / 2) (bit_xor (moved_up 1 low j) (first (moved_out 1 low j))) =
    λ j l.
    let i : 16 * b + j < 32 = omega arith in
    c.xored.ensures (16 * b + j) i
    ∙ ap₂ bit_xor (c.shr.ensures (16 * b + j) i)
    (c.anded-carried.ensures (16 * b + j) i
    ∙ ap₂ bit_and (c.placed.ensures b j h l ∙ spread (16 * b + slice_index BEFORE j) (omega (arith, before-lt j l))) (c.in_each_block.ensures b j h l)
    ∙ carried_byte g j small l) in
    element-at c.xored.result b ∙ bytes-same _ _ 16 byte ∙ sym (bytes_halved g small)
    ∙ ap times_x (sym (element-at c.args.v b) ∙ is b h)
