use Rattle.std.proofs.Common.{◌≡◌, ℕ, ◌<◌, ◌≤◌, length, vec_capacity}
use Rattle.mbj_lane.specs.Slots.{AreIdle, AreApart, IsIn}
use Rattle.mbj_lane.proofs.lanes.Lanes.new.Given as goal

abbrev pub invariant-lanes : goal.invariant-lanes
invariant-lanes g l = record {
  len : length l.idle.items ≡ l.i;
  room : g.K.Kernel.LANES ≤ vec_capacity l.idle;
  idle : AreIdle (g.K.SlotKernel.slot l.slots) g.K.Kernel.LANES l.idle.items;
  apart : AreApart l.idle.items;
  below : (j : ℕ) → IsIn j l.idle.items → j < l.i;
}
