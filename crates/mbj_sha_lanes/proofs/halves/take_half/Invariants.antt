-- The vectors before the next one have their halves.
use Rattle.std.proofs.Common.{◌≡◌, ℕ, ◌+◌, ◌<◌, [], slice_index_or}
use Rattle.mbj_types.specs.Lanes.{lane_at}
use Rattle.mbj_sha_lanes.specs.Halves.{first_of}
use Rattle.mbj_sha_lanes.proofs.halves.take_half.Given as goal

abbrev pub invariant-vectors : goal.invariant-vectors
invariant-vectors l = (j i : ℕ) → j < l.k → i < 8 → lane_at 32 (slice_index_or l.parts j []) i ≡ lane_at 32 (slice_index_or l.vectors j []) (first_of l.half + i)
