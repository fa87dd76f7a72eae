-- The lane queue with the entry that joined, which runs if it is full.
use Rattle.std.proofs.Common.{◌≡◌, ◌∙◌, ℕ, length, vec_capacity, ap, sym, subst, arith}
use Rattle.mbj_types.specs.Kinds.{lanes_of}
use Rattle.mbj_manager.specs.Inside.Courses.{courses, number, ring_number}
use Rattle.mbj_manager.specs.Inside.QueueView.{QueueView, IsReady, queue_view_at, joined_by, ran_at}
use Rattle.mbj_manager.proofs.Listing.{else-waits, full-runs, joined-queue_view, joined-ready}
use Rattle.mbj_manager.proofs.Numbering.{numbered-length}
use Rattle.mbj_manager.proofs.lane.enter.Goals as goal

pub join-requires-clause-free : goal.join-requires-clause-free
join-requires-clause-free g c =
    omega (arith, c.requires.may.few, g.met.K.JobKernel.lanes, numbered-length (ring_number c.args.ring.now) c.args.queue.now.queued)

pub run_within-requires-clause-ready : goal.run_within-requires-clause-ready
run_within-requires-clause-ready g c =
    let f = ring_number c.args.ring.now in
    let a = c.join.ensures.joins.entry in
    let d = queue_view_at f (courses c.args.ring.now) c.args.agenda.now.places.items c.args.queue.now c.args.flush_runs.now in
    let is = joined-queue_view f (courses c.args.ring.now) (courses c.join.new.ring) c.args.agenda.now.places.items c.args.queue.now
    c.join.new.self c.args.place a c.args.flush_runs.now c.join.ensures.out c.join.ensures.joins.is in
    let room = vec_capacity c.args.agenda.now.places in
    subst (λ (n : ℕ). IsReady g.K.JobKernel.kind (queue_view_at (number n) (courses c.join.new.ring) c.args.agenda.now.places.items c.join.new.self c.args.flush_runs.now) room)
    (sym c.join.ensures.ring.first)
    (subst (λ (d : QueueView). IsReady g.K.JobKernel.kind d room) (sym is)
    (joined-ready (lanes_of g.K.JobKernel.kind) g.K.JobKernel.kind (f c.args.place) a d room c.requires.may c.join.ensures.joins.some c.join.ensures.joins.gives))

pub run_within-requires-clause-full : goal.run_within-requires-clause-full
run_within-requires-clause-full g c = λ _. sym c.len.ensures ∙ c.if-len-LANES.true ∙ c.LANES.ensures ∙ g.met.K.JobKernel.lanes

pub returns-then-len-LANES-clause-entered : goal.returns-then-len-LANES-clause-entered
returns-then-len-LANES-clause-entered g c =
    let f = ring_number c.args.ring.now in
    let a = c.join.ensures.joins.entry in
    let d = queue_view_at f (courses c.args.ring.now) c.args.agenda.now.places.items c.args.queue.now c.args.flush_runs.now in
    let is = joined-queue_view f (courses c.args.ring.now) (courses c.join.new.ring) c.args.agenda.now.places.items c.args.queue.now
    c.join.new.self c.args.place a c.args.flush_runs.now c.join.ensures.out c.join.ensures.joins.is in
    let at = c.args.cause in
    let k = g.K.JobKernel.kind in
    let q = c.join.new.self in
    let ran = subst (λ (n : ℕ). queue_view_at (number n) (courses c.run_within.new.ring) c.run_within.new.agenda.places.items c.run_within.new.queue c.run_within.new.flush_runs
    ≡ ran_at at (queue_view_at (number n) (courses c.join.new.ring) c.args.agenda.now.places.items q c.args.flush_runs.now))
    c.join.ensures.ring.first c.run_within.ensures.ran in
    let full : length (joined_by (f c.args.place) a d).queued ≡ lanes_of k
    = sym (ap (λ (d : QueueView). length d.queued) is) ∙ numbered-length f q.queued ∙ sym c.len.ensures ∙ c.if-len-LANES.true ∙ c.LANES.ensures ∙ g.met.K.JobKernel.lanes in
    record {
      entry = a;
      some = c.join.ensures.joins.some;
      gives = c.join.ensures.joins.gives;
      is = ran ∙ ap (ran_at at) is ∙ sym (full-runs at (lanes_of k) _ full);
    }

pub returns-else-len-LANES-clause-entered : goal.returns-else-len-LANES-clause-entered
returns-else-len-LANES-clause-entered g c =
    let f = ring_number c.args.ring.now in
    let a = c.join.ensures.joins.entry in
    let d = queue_view_at f (courses c.args.ring.now) c.args.agenda.now.places.items c.args.queue.now c.args.flush_runs.now in
    let is = joined-queue_view f (courses c.args.ring.now) (courses c.join.new.ring) c.args.agenda.now.places.items c.args.queue.now
    c.join.new.self c.args.place a c.args.flush_runs.now c.join.ensures.out c.join.ensures.joins.is in
    record {
      entry = a;
      some = c.join.ensures.joins.some;
      gives = c.join.ensures.joins.gives;
      is = is ∙ sym (else-waits c.args.cause (lanes_of g.K.JobKernel.kind) _
          (λ e. c.if-len-LANES.false (c.len.ensures ∙ sym (numbered-length f c.join.new.self.queued) ∙ ap (λ (d : QueueView). length d.queued) is ∙ e
          ∙ sym g.met.K.JobKernel.lanes ∙ sym c.LANES.ensures)));
    }
