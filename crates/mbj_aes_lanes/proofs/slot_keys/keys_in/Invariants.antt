-- The lanes before the next one have the keys of their entries.
use Rattle.std.proofs.Common.{◌≡◌, ℕ, ◌<◌, [], length, get_or}
use Rattle.mbj_types.specs.Aes.{key_schedule}
use Rattle.mbj_types.specs.declared.kind.TheConstants.{AES_LANES}
use Rattle.mbj_aes_lanes.specs.KeyBytes.{IsKeyArray, key_of_array}
use Rattle.mbj_aes_lanes.specs.Inside.Slots.{IsKeyOf}
use Rattle.mbj_aes_lanes.proofs.slot_keys.keys_in.Given as goal

abbrev pub invariant-lanes : goal.invariant-lanes
invariant-lanes g l =
    let e = g.E.ChainedEntry in record {
      size : length l.keys ≡ AES_LANES;
      arrays : (k : ℕ) → k < l.i → IsKeyArray e.key_rounds (get_or l.keys k []);
      keys : (k : ℕ) → k < l.i → IsKeyOf e.key_of (key_schedule (key_of_array e.key_rounds (get_or l.keys k []))) (g.S.Slot.in_lane l.slots k);
    }
