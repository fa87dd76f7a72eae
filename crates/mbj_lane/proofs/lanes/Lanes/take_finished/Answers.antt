use Rattle.std.proofs.Common.{sym}
use Rattle.mbj_lane.proofs.Taken.{taken-at, taken-none}
use Rattle.mbj_lane.proofs.lanes.Lanes.take_finished.Goals as goal

pub returns-in-Some-clause-takes : goal.returns-in-Some-clause-takes
returns-in-Some-clause-takes g c =
    rw c.remove.ensures.others (sym (taken-at g.K.Kernel.rest_of c.args.self.now.entries c.in-Some.k c.remove.result.1 c.in-Some.ensures c.remove.ensures.entry))

pub returns-in-None-clause-takes : goal.returns-in-None-clause-takes
returns-in-None-clause-takes g c = sym (taken-none g.K.Kernel.rest_of c.args.self.now.entries c.in-None.ensures)
