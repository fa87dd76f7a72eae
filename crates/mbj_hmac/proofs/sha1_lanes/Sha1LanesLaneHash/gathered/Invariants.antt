use Rattle.std.proofs.Common.{◌≡◌, ℕ, ◌<◌, [], length, slice_index_or}
use Rattle.mbj_types.specs.declared.kind.TheConstants.{SHA1_LANES}
use Rattle.mbj_hmac.proofs.sha1_lanes.Sha1LanesLaneHash.gathered.Given as goal

abbrev pub invariant-lanes : goal.invariant-lanes
invariant-lanes g l = record {
  long : length l.states ≡ SHA1_LANES;
  read : (k : ℕ) → k < l.i → slice_index_or l.states k [] ≡ g.C.Chains.chain l.chains k;
}
