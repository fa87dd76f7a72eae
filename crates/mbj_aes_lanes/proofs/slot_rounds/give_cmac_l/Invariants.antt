-- The entries are as they were.
use Rattle.std.proofs.Common.{◌≡◌}
use Rattle.mbj_aes_lanes.proofs.slot_rounds.give_cmac_l.Given as goal

abbrev pub invariant-lanes : goal.invariant-lanes
invariant-lanes g l = l.slots ≡ l.initial.slots
