use Rattle.mbj_core.proofs.machine.Core.stands_for_a_state.Goals as goal

pub returns : goal.returns
returns c = rw (← c.self.view_is) c.self.invariant.backed
