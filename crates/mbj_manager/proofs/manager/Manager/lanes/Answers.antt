use Rattle.std.proofs.Common.{map, subst}
use Rattle.mbj_lane.specs.Rounds.{end_of}
use Rattle.mbj_manager.specs.Machine.Queues.{queue_for}
use Rattle.mbj_manager.specs.State.{ManagerState}
use Rattle.mbj_manager.specs.Entries.{AreEntriesOf}
use Rattle.mbj_manager.proofs.Counted.{entries-count}
use Rattle.mbj_manager.proofs.manager.Manager.lanes.Goals as goal

pub returns-clause-entries : goal.returns-clause-entries
returns-clause-entries g c =
    let ends = map (λ e. g.K.JobKernel.brings (end_of g.K.Kernel.round g.K.Kernel.rest_of e)) c.lanes.result.now.entries in
    subst (λ (h : ManagerState). AreEntriesOf g.K.JobKernel.kind h ends (queue_for g.K.JobKernel.kind h.machine).waiting) c.self.view_is
    (entries-count g.K.JobKernel.kind c.self.inside.engine c.self.inside.expansions ends (queue_for g.K.JobKernel.kind c.self.inside.engine.machine).waiting c.lanes.ensures.entries)
