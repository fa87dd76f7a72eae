-- Each run that counts was on a full lane queue.
use Rattle.std.proofs.Common.{◌∙◌, ◌*◌, ◌%◌, ap}
use Rattle.mbj_types.specs.Kinds.{lanes_of}
use Rattle.mbj_manager.specs.Machine.Queues.{count_end, queue_for}
use Rattle.mbj_manager.specs.State.{ManagerState}
use Rattle.mbj_manager.proofs.engine.Engine.blocks.Goals as goal

pub returns-clause-full : goal.returns-clause-full
returns-clause-full c =
    let k = c.args.kind in
    let blocks = rw c.deref.ensures at c.blocks-2.ensures in
    blocks ∙ (c.self.invariant.within.lanes k).blocks
    ∙ ap (λ (h : ManagerState). (lanes_of k * (queue_for k h.machine).rounds) % count_end) c.self.view_is
