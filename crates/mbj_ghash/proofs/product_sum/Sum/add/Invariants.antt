-- The places before the next one have their products added.
use Rattle.std.proofs.Common.{◌≡◌, ℕ, ◌<◌, ◌≤◌, length, bit_xor}
use Rattle.mbj_types.specs.Lanes.{lane_at}
use Rattle.mbj_aes.specs.BlockWords.{block_byte}
use Rattle.mbj_aes.specs.Moves.{byte_or_zero}
use Rattle.mbj_ghash.specs.Inside.{register}
use Rattle.mbj_ghash.proofs.product_sum.Sum.add.Given as goal

abbrev pub invariant-loop-d : goal.invariant-loop-d
invariant-loop-d l = record {
  size : length l.self.places ≡ 8;
  done : (k b j : ℕ) → k < l.d → b < 2 → j < 16 → block_byte (lane_at 8) (register l.self.places k) b j
      ≡ bit_xor (block_byte (lane_at 8) (register l.initial.self.places k) b j)
      (bit_xor (byte_or_zero (block_byte (lane_at 8) (register l.rows.low k) b) (block_byte (lane_at 8) l.low b j))
      (byte_or_zero (block_byte (lane_at 8) (register l.rows.high k) b) (block_byte (lane_at 8) l.high b j)));
  rest : (k : ℕ) → l.d ≤ k → register l.self.places k ≡ register l.initial.self.places k;
}
