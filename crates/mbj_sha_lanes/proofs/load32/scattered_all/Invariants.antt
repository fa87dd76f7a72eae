use Rattle.std.proofs.Common.{◌≡◌, ℕ, ◌<◌, [], length, slice_index_or}
use Rattle.mbj_types.specs.Lanes.{lane_at, lane_of}
use Rattle.mbj_sha_lanes.proofs.load32.scattered_all.Given as goal

abbrev pub invariant-states : goal.invariant-states
invariant-states g l = record {
  long : length l.states ≡ 16;
  done : (j : ℕ) → j < l.i → slice_index_or l.states j [] ≡ lane_of (lane_at 32) l.lanes j;
}
