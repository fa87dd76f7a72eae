-- The lanes before the next one are idle.
use Rattle.std.proofs.Common.{◌≡◌, ℕ, ◌<◌, None}
use Rattle.mbj_aes_lanes.proofs.slot.rounds_in.Given as goal

abbrev pub invariant-lanes : goal.invariant-lanes
invariant-lanes g l = (k : ℕ) → k < l.i → g.S.Slot.in_lane l.slots k ≡ None
