use Rattle.std.proofs.Common.{◌≡◌, ℕ, ◌<◌, [], length, slice_index, slice_index_or}
use Rattle.mbj_types.specs.Lanes.{lane_at}
use Rattle.mbj_sha_lanes.proofs.load32.scattered.Given as goal

abbrev pub invariant-words : goal.invariant-words
invariant-words g l = record {
  long : length l.words ≡ g.row.N;
  words : (k : ℕ) → k < l.j → slice_index l.words k ≡ lane_at 32 (slice_index_or l.states k []) l.i;
}
