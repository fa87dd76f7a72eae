use Rattle.std.proofs.Common.{◌≡◌, ℕ, ◌≤◌, length, vec_capacity}
use Rattle.mbj_hmac.specs.Inside.InLanes.{entry_in}
use Rattle.mbj_hmac.proofs.slots.HmacKernelSlotKernel.new_slots.Given as goal

abbrev pub invariant-slots : goal.invariant-slots
invariant-slots g l = record {
  len : length l.entries.items ≡ l._i;
  room : g.H.LaneHash.LANES ≤ vec_capacity l.entries;
  rests : (j : ℕ) → (entry_in l.entries.items j).rest ≡ 0;
}
