use Rattle.std.proofs.Common.{◌≡◌, ℕ, ◌<◌, [], length, slice_index, slice_index_or}
use Rattle.mbj_types.specs.Lanes.{lane_at}
use Rattle.mbj_sha_lanes.proofs.load64.state_words.Given as goal

abbrev pub invariant-states : goal.invariant-states
invariant-states g l = record {
  long : length l.words ≡ 8;
  words : (k : ℕ) → k < l.i → lane_at 64 l.words k ≡ slice_index (slice_index_or l.states k []) l.j;
  lengths : (k : ℕ) → k < l.i → length (slice_index_or l.states k []) ≡ g.row.N;
}
