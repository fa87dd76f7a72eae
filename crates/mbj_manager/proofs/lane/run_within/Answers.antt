-- The run of the lane queue is counted for its call.
use Rattle.std.proofs.Common.{◌≡◌, ◌∙◌, length, ap, sym, arith}
use Rattle.std.proofs.lemmas.List.{length-map}
use Rattle.mbj_manager.specs.Inside.Courses.{courses, ring_number}
use Rattle.mbj_manager.specs.Inside.PlacedQueue.{advanced_entry, numbered}
use Rattle.mbj_manager.specs.Inside.QueueView.{queue_view_at, ran_at}
use Rattle.mbj_manager.proofs.Finishing.{listed-advanced}
use Rattle.mbj_manager.proofs.Listing.{counted-run, flushed-run, advanced-queue_view}
use Rattle.mbj_manager.proofs.Numbering.{numbered-least, numbered-advanced, numbered-length, unnumbered-rests}
use Rattle.mbj_manager.proofs.lane.run_within.Goals as goal

pub run-m-requires-clause-some : goal.run-m-requires-clause-some
run-m-requires-clause-some g c =
    omega (arith, c.requires.ready.some, numbered-length (ring_number c.args.ring.now) c.args.queue.now.queued)

pub run-m-requires-clause-rests : goal.run-m-requires-clause-rests
run-m-requires-clause-rests g c = unnumbered-rests (ring_number c.args.ring.now) c.args.queue.now.queued c.requires.ready.rests

pub leave-requires-clause-listed : goal.leave-requires-clause-listed
leave-requires-clause-listed g c =
    let f = ring_number c.args.ring.now in
    let ws = c.args.queue.now.queued in
    let m = c.run-m.result in
    rw (c.run-m.ensures.advanced, numbered-advanced f m ws) (listed-advanced g.K.JobKernel.kind (courses c.args.ring.now) m (numbered f ws) c.requires.ready.listed)

pub leave-requires-clause-room : goal.leave-requires-clause-room
leave-requires-clause-room g c =
    let f = ring_number c.args.ring.now in
    let ws = c.args.queue.now.queued in
    rw c.run-m.ensures.advanced
    (omega (arith, c.requires.ready.room_left, length-map ws (advanced_entry c.run-m.result), numbered-length f ws, length-map c.args.agenda.now.places.items f))

pub returns-in-Submit-clause-ran : goal.returns-in-Submit-clause-ran
returns-in-Submit-clause-ran g c =
    let f = ring_number c.args.ring.now in
    let q = c.args.queue.now in
    let cs = courses c.args.ring.now in
    let ag = c.args.agenda.now.places.items in
    let d = queue_view_at f cs ag q c.args.flush_runs.now in
    let m = c.run-m.result in
    let left = c.leave.ensures.left ∙ advanced-queue_view f cs ag q c.run-m.new.self m c.args.flush_runs.now c.run-m.ensures.advanced c.run-m.ensures.least in
    let full : g.K.Kernel.LANES ≡ length (numbered f q.queued)
    = g.met.K.JobKernel.lanes ∙ sym (c.requires.full (c.in-Submit.is)) ∙ sym (numbered-length f q.queued) in
    rw c.count.ensures
    (counted-run d (queue_view_at f (courses c.leave.new.ring) c.leave.new.agenda.places.items c.leave.new.queue 0) m g.K.Kernel.LANES left
    (c.run-m.ensures.least ∙ sym (numbered-least f q.queued)) full)
    ∙ ap (λ x. ran_at x d) (sym c.in-Submit.is)

pub returns-in-Flush-clause-ran : goal.returns-in-Flush-clause-ran
returns-in-Flush-clause-ran g c =
    let f = ring_number c.args.ring.now in
    let q = c.args.queue.now in
    let cs = courses c.args.ring.now in
    let ag = c.args.agenda.now.places.items in
    let d = queue_view_at f cs ag q c.args.flush_runs.now in
    let left = c.leave.ensures.left ∙ advanced-queue_view f cs ag q c.run-m.new.self c.run-m.result c.args.flush_runs.now c.run-m.ensures.advanced c.run-m.ensures.least in
    flushed-run d (queue_view_at f (courses c.leave.new.ring) c.leave.new.agenda.places.items c.leave.new.queue 0) left
    ∙ ap (λ x. ran_at x d) (sym c.in-Flush.is)
