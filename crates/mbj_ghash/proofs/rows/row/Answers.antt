use Rattle.std.proofs.Common.{◌≡◌, ℕ, ◌+◌, ◌*◌, ◌/◌, ◌%◌, ◌^◌, ◌<◌, List, replicate, slice_index, bit_xor, ap, ap₂, ◌∙◌, arith}
use Rattle.mbj_types.specs.Lanes.{lane_at}
use Rattle.mbj_types.proofs.Vectors.{replicate_at}
use Rattle.mbj_aes.specs.BlockWords.{block_byte}
use Rattle.mbj_aes.specs.Moves.{byte_or_zero}
use Rattle.mbj_ghash.specs.declared.tables.TheConstants.{LOW_PAIR, HIGH_PAIR}
use Rattle.mbj_ghash.proofs.TableEntries.{near_index, near_byte, low_pair_place, high_pair_place}
use Rattle.mbj_ghash.proofs.rows.row.Goals as goal

first_added : (at each table : List ℕ) (first : ℕ) → first < 2 ^ 8
    → ((i : ℕ) → i < 32 → lane_at 8 at i ≡ (lane_at 8 each i + lane_at 8 (replicate 32 first) i) % 2 ^ 8)
    → ((b j : ℕ) → b < 2 → j < 16 → lane_at 8 each (16 * b + j) ≡ slice_index table j)
    → (b j : ℕ) → b < 2 → j < 16 → block_byte (lane_at 8) at b j ≡ (slice_index table j + first) % 2 ^ 8
first_added at each table first fits is places b j h k =
    let i : 16 * b + j < 32 = omega arith in
    is (16 * b + j) i ∙ ap₂ (λ (x y : ℕ). (x + y) % 2 ^ 8) (places b j h k) (replicate_at 8 32 first (16 * b + j) fits i)

pub taken-lows-requires : goal.taken-lows-requires
taken-lows-requires c b j h k =
    rw (first_added c.plus.result c.in_each_block.result LOW_PAIR c.args.first c.ranges.first.fits c.plus.ensures c.in_each_block.ensures b j h k)
    (near_index (slice_index LOW_PAIR j) (j % 4) c.args.first (low_pair_place j k) (omega arith))

pub taken-highs-requires : goal.taken-highs-requires
taken-highs-requires c b j h k =
    rw (first_added c.plus-2.result c.in_each_block-2.result HIGH_PAIR c.args.first c.ranges.first.fits c.plus-2.ensures c.in_each_block-2.ensures b j h k)
    (near_index (slice_index HIGH_PAIR j) (j / 4) c.args.first (high_pair_place j k) (omega arith))

pub returns : goal.returns
returns c b n h k =
    c.xored.ensures (16 * b + n) (omega arith)
    ∙ ap₂ bit_xor
    (c.taken-lows.ensures b n h k
    ∙ ap (byte_or_zero (block_byte (lane_at 8) c.args.low b))
    (first_added c.plus.result c.in_each_block.result LOW_PAIR c.args.first c.ranges.first.fits c.plus.ensures c.in_each_block.ensures b n h k)
    ∙ near_byte (slice_index LOW_PAIR n) (n % 4) c.args.first (block_byte (lane_at 8) c.args.low b) (low_pair_place n k) (omega arith))
    (c.taken-highs.ensures b n h k
    ∙ ap (byte_or_zero (block_byte (lane_at 8) c.args.high b))
    (first_added c.plus-2.result c.in_each_block-2.result HIGH_PAIR c.args.first c.ranges.first.fits c.plus-2.ensures c.in_each_block-2.ensures b n h k)
    ∙ near_byte (slice_index HIGH_PAIR n) (n / 4) c.args.first (block_byte (lane_at 8) c.args.high b) (high_pair_place n k) (omega arith))
