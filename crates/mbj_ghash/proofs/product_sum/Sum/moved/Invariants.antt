-- The places before the next one are moved and added.
use Rattle.std.proofs.Common.{◌≡◌, ℕ, ◌<◌, ◌≤◌}
use Rattle.mbj_types.specs.Field.{add, times_power, weighted}
use Rattle.mbj_types.specs.Ghash.{element}
use Rattle.mbj_types.specs.Lanes.{lane_at}
use Rattle.mbj_aes.specs.BlockWords.{block_byte, block_at}
use Rattle.mbj_ghash.specs.Inside.{register}
use Rattle.mbj_ghash.proofs.product_sum.Sum.moved.Given as goal

abbrev pub invariant-loop-d : goal.invariant-loop-d
invariant-loop-d l = record {
  sum : (b : ℕ) → b < 2
      → add (element (block_at (lane_at 8) l.inside b)) (times_power 128 (element (block_at (lane_at 8) l.beyond b)))
      ≡ weighted (λ d. element (block_at (lane_at 8) (register l.self.places d) b)) l.d;
  rest : (b j : ℕ) → b < 2 → 7 ≤ j → j < 16 → block_byte (lane_at 8) l.beyond b j ≡ 0;
}
