-- Each place has its byte or none.
use Rattle.std.proofs.Common.{◌≡◌, ℕ, ◌+◌, ◌*◌, ◌/◌, ◌%◌, ◌^◌, ◌<◌, List, replicate, slice_index, bit_xor, ap, ap₂, ◌∙◌, arith}
use Rattle.mbj_types.specs.Lanes.{lane_at}
use Rattle.mbj_types.proofs.Vectors.{replicate_at}
use Rattle.mbj_aes.specs.BlockWords.{block_byte}
use Rattle.mbj_ghash.specs.declared.tables.TheConstants.{ODD, LAST_TWO}
use Rattle.mbj_ghash.proofs.TableEntries.{pairs_index, pairs_byte, odd_place, last_two_place}
use Rattle.mbj_ghash.proofs.rows.pairs.Goals as goal

first_added : (at table : List ℕ) (first : ℕ) → first < 2 ^ 8
    → ((i : ℕ) → i < 32 → lane_at 8 at i ≡ (lane_at 8 table i + lane_at 8 (replicate 32 first) i) % 2 ^ 8)
    → (i : ℕ) → i < 32 → lane_at 8 at i ≡ (slice_index table i % 2 ^ 8 + first) % 2 ^ 8
first_added at table first fits is i h =
    is i h ∙ ap (λ (y : ℕ). (slice_index table i % 2 ^ 8 + y) % 2 ^ 8) (replicate_at 8 32 first i fits h)

pub taken-ones-requires : goal.taken-ones-requires
taken-ones-requires c =
    pairs_index ODD (λ m. m % 2) (λ m h. omega arith) c.args.first c.requires c.plus.result odd_place
    (first_added c.plus.result ODD c.args.first c.ranges.first.fits c.plus.ensures)

pub taken-requires : goal.taken-requires
taken-requires c =
    pairs_index LAST_TWO (λ m. m / 2) (λ m h. omega arith) c.args.first c.requires c.plus-2.result last_two_place
    (first_added c.plus-2.result LAST_TWO c.args.first c.ranges.first.fits c.plus-2.ensures)

pub returns : goal.returns
returns c b q m h k l =
    c.xored.ensures (16 * b + (4 * q + m)) (omega arith)
    ∙ ap₂ bit_xor
    (c.taken-ones.ensures b (4 * q + m) h (omega arith)
    ∙ pairs_byte ODD (λ m. m % 2) (λ m h. omega arith) c.args.first c.requires c.plus.result odd_place
    (first_added c.plus.result ODD c.args.first c.ranges.first.fits c.plus.ensures) (block_byte (lane_at 8) c.args.one b) b q m h k l)
    (c.taken.ensures b (4 * q + m) h (omega arith)
    ∙ pairs_byte LAST_TWO (λ m. m / 2) (λ m h. omega arith) c.args.first c.requires c.plus-2.result last_two_place
    (first_added c.plus-2.result LAST_TWO c.args.first c.ranges.first.fits c.plus-2.ensures) (block_byte (lane_at 8) c.args.two b) b q m h k l)
