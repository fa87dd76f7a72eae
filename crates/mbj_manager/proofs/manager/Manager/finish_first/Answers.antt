-- A flush leaves a manager between two calls.
use Rattle.std.proofs.Common.{subst, sym}
use Rattle.mbj_manager.specs.Inside.Settled.{IsSettled}
use Rattle.mbj_manager.proofs.CallsKeep.{flush-settled}
use Rattle.mbj_manager.proofs.manager.Manager.finish_first.Goals as goal

pub invariant_of-self : goal.invariant_of-self
invariant_of-self c = subst IsSettled (sym c.flush_first.ensures.flushed) (flush-settled c.self.inside.engine c.self.invariant)
