-- The lane queue that the fields hold is the machine's, and its entries are those of the machine's jobs.
use Rattle.std.proofs.Common.{◌≡◌, ◌∙◌, List, map, ap, sym, subst}
use Rattle.std.proofs.lemmas.List.Elements.{All-map}
use Rattle.mbj_lane.specs.Rounds.{end_of}
use Rattle.mbj_stage.specs.Handing.{End}
use Rattle.mbj_manager.specs.Machine.Queues.{queue_for, rest_of}
use Rattle.mbj_manager.specs.State.{ManagerState}
use Rattle.mbj_manager.specs.Entries.{AreEntriesOf, HasJobSteps}
use Rattle.mbj_manager.specs.Cells.{course_in, job_in}
use Rattle.mbj_manager.specs.Inside.Courses.{courses, ring_number}
use Rattle.mbj_manager.specs.Inside.Held.{held, lines_in, waiting}
use Rattle.mbj_manager.specs.Inside.PlacedQueue.{PlacedQueue, PlacedEntry, pair_rest, rounds_in}
use Rattle.mbj_manager.specs.Inside.LaneQueues.{placed_in}
use Rattle.mbj_manager.proofs.Entries.{all-entries, numbered-ends, numbered-rests}
use Rattle.mbj_manager.proofs.engine.Engine.lanes.Goals as goal

pub returns-clause-rests : goal.returns-clause-rests
returns-clause-rests g c =
    let w = c.self.inside in
    let f = ring_number w.ring in
    let queue = rw c.deref.ensures at c.queue.ensures in
    c.lanes.ensures.rests ∙ ap (λ (l : PlacedQueue). map (pair_rest rounds_in) l.queued) queue
    ∙ sym (numbered-rests f (placed_in g.K.JobKernel.kind w.queues.value).queued)
    ∙ ap (λ (h : ManagerState). map rest_of (queue_for g.K.JobKernel.kind h.machine).waiting) c.self.view_is

pub returns-clause-entries : goal.returns-clause-entries
returns-clause-entries g c =
    let w = c.self.inside in
    let f = ring_number w.ring in
    let k = g.K.JobKernel.kind in
    let queue = rw c.deref.ensures at c.queue.ensures in
    let lines = lines_in w.ring w.queues.value in
    let state = held w.ring w.agenda.places.items w.queues.value in
    let ends : List End = map (λ e. g.K.JobKernel.brings (end_of g.K.Kernel.round g.K.Kernel.rest_of e)) c.lanes.result.now.entries in
    let seen : map (λ (x : PlacedEntry). x.1.brings) (lines k).queued ≡ ends
    = numbered-ends f (placed_in k w.queues.value).queued ∙ ap (λ (l : PlacedQueue). map (λ (x : PlacedEntry). x.1.brings) l.queued) (sym queue) ∙ sym c.lanes.ensures.ends in
    subst (λ (h : ManagerState). AreEntriesOf k h ends (queue_for k h.machine).waiting) c.self.view_is
    (subst (λ (es : List End). AreEntriesOf k state es (map waiting (lines k).queued)) seen
    (all-entries k (courses w.ring) (map f w.agenda.places.items) lines w.queues.value.flush_runs (map job_in w.ring.opened)
    (All-map HasJobSteps course_in w.ring.values c.self.invariant.ring.steps) (c.self.invariant.tied.listed k)))
