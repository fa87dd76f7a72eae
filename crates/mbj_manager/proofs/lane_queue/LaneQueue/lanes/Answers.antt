use Rattle.std.proofs.Common.{◌∙◌, map, ap}
use Rattle.mbj_manager.specs.Inside.PlacedQueue.{PlacedQueue, PlacedEntry, pair_rest, rounds_in}
use Rattle.mbj_manager.proofs.QueuedOf.{queued_of-ends, queued_of-rests}
use Rattle.mbj_manager.proofs.lane_queue.LaneQueue.lanes.Goals as goal

pub returns-clause-rests : goal.returns-clause-rests
returns-clause-rests g c =
    let q = c.self.inside in
    queued_of-rests g.K.Kernel.round g.K.Kernel.rest_of g.K.JobKernel.brings q.lanes.places q.lanes.entries c.self.invariant.0
    ∙ ap (λ (l : PlacedQueue). map (pair_rest rounds_in) l.queued) c.self.view_is

pub returns-clause-ends : goal.returns-clause-ends
returns-clause-ends g c =
    let q = c.self.inside in
    queued_of-ends g.K.Kernel.round g.K.Kernel.rest_of g.K.JobKernel.brings q.lanes.places q.lanes.entries c.self.invariant.0
    ∙ ap (λ (l : PlacedQueue). map (λ (w : PlacedEntry). w.1.brings) l.queued) c.self.view_is
