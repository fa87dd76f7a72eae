use Rattle.std.proofs.Common.{◌∙◌, length, sym, ap}
use Rattle.mbj_manager.specs.Inside.PlacedQueue.{PlacedQueue}
use Rattle.mbj_manager.proofs.QueuedOf.{queued_of-length}
use Rattle.mbj_manager.proofs.lane_queue.LaneQueue.len.Goals as goal

pub returns : goal.returns
returns g c =
    let q = c.self.inside in
    c.len.ensures.entries ∙ sym (queued_of-length g.K.Kernel.round g.K.Kernel.rest_of g.K.JobKernel.brings q.lanes.places q.lanes.entries c.self.invariant.0)
    ∙ ap (λ (l : PlacedQueue). length l.queued) c.self.view_is
