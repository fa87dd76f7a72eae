-- The lanes before the next one have the round keys of their entries.
use Rattle.std.proofs.Common.{◌≡◌, length}
use Rattle.mbj_aes_lanes.specs.declared.few_keys.TheConstants.{FEW_LANES}
use Rattle.mbj_aes_lanes.specs.Inside.BusyKeys.{few_schedule}
use Rattle.mbj_aes_lanes.specs.Inside.Slots.{AreKeyed}
use Rattle.mbj_aes_lanes.proofs.slot_keys.laid_keys_in.Given as goal

abbrev pub invariant-lanes : goal.invariant-lanes
invariant-lanes g l = record {
  size : length l.keys ≡ FEW_LANES;
  keys : AreKeyed g.E.ChainedEntry.key_of (g.S.Slot.in_lane l.slots) l.i (few_schedule l.rounds l.keys);
}
