use Rattle.std.proofs.Common.{◌≡◌, ℕ, ◌<◌, [], length, slice_index, slice_index_or}
use Rattle.mbj_types.specs.Lanes.{lane_at}
use Rattle.mbj_sha_lanes.proofs.load64.gathered.Given as goal

abbrev pub invariant-words : goal.invariant-words
invariant-words g l = record {
  long : length l.lanes ≡ g.row.N;
  sizes : (i : ℕ) → 0 < l.j → i < 8 → length (slice_index_or l.states i []) ≡ g.row.N;
  words : (k i : ℕ) → k < l.j → i < 8 → lane_at 64 (slice_index_or l.lanes k []) i ≡ slice_index (slice_index_or l.states i []) k;
}
