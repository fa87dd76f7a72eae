-- The entries of the slots before the next one stand in the first slots.
use Rattle.std.proofs.Common.{◌≡◌, ℕ, ◌<◌, ◌≤◌, None, length, slice_index}
use Rattle.mbj_types.specs.declared.kind.TheConstants.{AES_LANES}
use Rattle.mbj_aes_lanes.specs.Slots.{slot_at}
use Rattle.mbj_aes_lanes.specs.Inside.Gathered.{gathered, AreLanes}
use Rattle.mbj_aes_lanes.proofs.gathering.gather.Given as goal

abbrev pub invariant-slots : goal.invariant-slots
invariant-slots g l = record {
  size : length l.from ≡ AES_LANES;
  most : l.many ≤ l.i;
  lanes : AreLanes (slice_index l.from) l.many;
  moved : l.slots ≡ gathered (slice_index l.from) l.many l.initial.slots;
  idle : (i : ℕ) → l.many ≤ i → i < l.i → slot_at l.slots i ≡ None;
}
