use Rattle.std.proofs.Common.{◌≡◌, ℕ, ◌<◌, [], length, slice_index_or}
use Rattle.mbj_types.specs.declared.kind.TheConstants.{SHA256_LANES}
use Rattle.mbj_hmac.proofs.sha256_lanes.Sha256LanesLaneHash.gathered.Given as goal

abbrev pub invariant-lanes : goal.invariant-lanes
invariant-lanes g l = record {
  long : length l.states ≡ SHA256_LANES;
  read : (k : ℕ) → k < l.i → slice_index_or l.states k [] ≡ g.C.Chains.chain l.chains k;
}
