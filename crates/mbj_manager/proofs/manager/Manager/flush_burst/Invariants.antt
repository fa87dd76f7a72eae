-- The turns that are left lead to where all of them lead, and so far each gave a result.
use Rattle.std.proofs.Common.{◌≡◌, ◌+◌, ◌-◌, ◌++◌, ◌≤◌, length, vec_capacity}
use Rattle.mbj_manager.specs.Calls as calls
use Rattle.mbj_manager.proofs.Turns.{FlushedSo, Turns}
use Rattle.mbj_manager.proofs.manager.Manager.flush_burst.Given as goal

abbrev pub invariant-flushing : goal.invariant-flushing
invariant-flushing l = record {
  turns : Turns calls.flush (l.n - l.count) l.n l.self l.initial.self l.out.items l.initial.out.items;
  so : FlushedSo l.self l.initial.self l.out.items l.initial.out.items;
  order : l.out.items ++ l.self.owed ≡ l.initial.out.items ++ l.initial.self.owed;
  owes : l.count + length l.self.owed ≡ length l.initial.self.owed;
  counted : length l.out.items ≡ length l.initial.out.items + l.count;
  few : l.count ≤ l.n;
  opened : l.self.opened ≡ l.initial.self.opened;
  room : vec_capacity l.out ≡ vec_capacity l.initial.out;
}

abbrev pub decreases-flushing : goal.decreases-flushing
decreases-flushing l = l.n - l.count
