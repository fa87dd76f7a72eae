-- The entries from the next one on are back.
use Rattle.std.proofs.Common.{◌≡◌, length, slice_index}
use Rattle.mbj_types.specs.declared.kind.TheConstants.{AES_LANES}
use Rattle.mbj_aes_lanes.specs.Inside.Gathered.{ungathered}
use Rattle.mbj_aes_lanes.proofs.gathering.scatter.Given as goal

abbrev pub invariant-entries : goal.invariant-entries
invariant-entries g l = record {
  size : length l.slots ≡ AES_LANES;
  back : ungathered (slice_index l.origins.from) l.p l.slots ≡ ungathered (slice_index l.origins.from) l.origins.many l.initial.slots;
}
