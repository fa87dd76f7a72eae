use Rattle.mbj_core.proofs.Facts.{facts_of, lawful_of}
use Rattle.mbj_core.proofs.machine.Core.stands_for_lawful_states.Goals as goal

pub returns : goal.returns
returns c = rw (← c.self.view_is) (λ f stands. lawful_of _ f stands (facts_of _ f stands c.self.invariant.backed))
