use Rattle.std.proofs.Common.{◌≡◌, ℕ, ◌<◌, [], ◌++◌, length, slice_index_or}
use Rattle.mbj_sha_lanes.proofs.load64.joined.Given as goal

abbrev pub invariant-words : goal.invariant-words
invariant-words l = record {
  long : length l.words ≡ 16;
  words : (j : ℕ) → j < l.k → slice_index_or l.words j [] ≡ slice_index_or l.low j [] ++ slice_index_or l.high j [];
}
