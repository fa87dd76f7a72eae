use Rattle.std.proofs.Common.{◌≡◌, ◌-◌, ◌++◌, take, drop, map}
use Rattle.mbj_job_tests.specs.declared.lane.Waiter.{Waiter}
use Rattle.mbj_job_tests.proofs.lane.WaitingKernel.run.Given as goal

abbrev pub invariant-waiters : goal.invariant-waiters
invariant-waiters l = l.entries ≡ map {A = Waiter} {B = Waiter} (λ w. record w { turns = w.turns - l.m }) (take l.entry-index l.initial.entries) ++ drop l.entry-index l.initial.entries
