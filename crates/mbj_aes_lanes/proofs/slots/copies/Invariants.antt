-- As many as turns, and the room of all.
use Rattle.std.proofs.Common.{◌≡◌, ◌≤◌, length}
use Rattle.std.specs.Prelude.{vec_capacity}
use Rattle.mbj_aes_lanes.proofs.slots.copies.Given as goal

abbrev pub invariant-copies : goal.invariant-copies
invariant-copies g l = record { many : length l.copies.items ≡ l._i; room : l.many ≤ vec_capacity l.copies }
