-- As many idle slots as turns, and the room of all.
use Rattle.std.proofs.Common.{◌≡◌, ◌≤◌, None, replicate}
use Rattle.std.specs.Prelude.{vec_capacity}
use Rattle.mbj_types.specs.declared.kind.TheConstants.{AES_LANES}
use Rattle.mbj_aes_lanes.proofs.slots.ChainedSlotKernel.new_slots.Given as goal

abbrev pub invariant-lanes : goal.invariant-lanes
invariant-lanes g l = record { items : l.entries.items ≡ replicate l._i None; room : AES_LANES ≤ vec_capacity l.entries }
