use Rattle.std.proofs.Common.{refl}
use Rattle.mbj_c.proofs.exports.jobs.mbj_c_flush.Goals as goal

pub returns-clause-state : goal.returns-clause-state
returns-clause-state c = c.give.ensures.state

pub returns-clause-returned : goal.returns-clause-returned
returns-clause-returned c = c.give.ensures.returned

pub returns-clause-drained : goal.returns-clause-drained
returns-clause-drained c = c.give.ensures.drained refl
