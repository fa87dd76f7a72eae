-- The turns that are left lead to where all of them lead, and each has an open job.
use Rattle.std.proofs.Common.{◌≡◌, ◌+◌, ◌-◌, ◌≤◌, length, vec_capacity}
use Rattle.mbj_manager.specs.Calls as calls
use Rattle.mbj_manager.proofs.Turns.{Turns}
use Rattle.mbj_manager.proofs.manager.Manager.submit_burst.Given as goal

abbrev pub invariant-submitting : goal.invariant-submitting
invariant-submitting l = record {
  turns : Turns calls.submit (l.n - l.turn) l.n l.self l.initial.self l.out.items l.initial.out.items;
  are_open : l.n ≤ length l.self.opened + l.turn;
  counted : length l.out.items ≡ length l.initial.out.items + l.count;
  few : l.count ≤ l.turn;
  room : vec_capacity l.out ≡ vec_capacity l.initial.out;
}
