use Rattle.std.proofs.Common.{◌≡◌, ℕ, ◌<◌, [], length, slice_index_or}
use Rattle.mbj_types.specs.declared.kind.TheConstants.{SHA512_LANES}
use Rattle.mbj_hmac.proofs.sha512_lanes.Sha512LanesLaneHash.gathered.Given as goal

abbrev pub invariant-lanes : goal.invariant-lanes
invariant-lanes g l = record {
  long : length l.states ≡ SHA512_LANES;
  read : (k : ℕ) → k < l.i → slice_index_or l.states k [] ≡ g.C.Chains.chain l.chains k;
}
