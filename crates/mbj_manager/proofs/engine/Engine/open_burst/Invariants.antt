-- What is left to open leads to where the whole burst leads.
use Rattle.std.proofs.Common.{◌≡◌, ◌-◌, length}
use Rattle.mbj_ring.specs.declared.ring.TheConstants.{CELLS}
use Rattle.mbj_manager.specs.State.{after_get_next_burst}
use Rattle.mbj_manager.proofs.engine.Engine.open_burst.Given as goal

abbrev pub invariant-opening : goal.invariant-opening
invariant-opening l = after_get_next_burst l.n l.self ≡ after_get_next_burst l.n l.initial.self

abbrev pub decreases-opening : goal.decreases-opening
decreases-opening l = CELLS - length l.self.opened
