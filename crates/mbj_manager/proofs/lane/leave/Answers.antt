-- The first whose rounds are done leaves, and its course joins the agenda.
use Rattle.std.proofs.Common.{◌≡◌, ◌∷◌, [], ◌∙◌, ℕ, List, length, map, refl, ap, sym, subst, arith, length-append}
use Rattle.std.proofs.lemmas.List.{map-append}
use Rattle.std.specs.Option.{option_map}
use Rattle.mbj_stage.specs.CourseState.{CourseState}
use Rattle.mbj_stage.specs.Handing.{IsOut, taken_back}
use Rattle.mbj_manager.specs.Machine.Queues.{changed}
use Rattle.mbj_manager.specs.Inside.Courses.{courses, number, ring_number}
use Rattle.mbj_manager.specs.Inside.Leaving.{At}
use Rattle.mbj_manager.specs.Inside.PlacedQueue.{PlacedQueue, numbered}
use Rattle.mbj_manager.specs.Inside.QueueView.{Listed}
use Rattle.mbj_manager.proofs.Finishing.{leaves, listed-changed, none-left-now, took-left}
use Rattle.mbj_manager.proofs.Numbering.{numbered-length, numbered-taken, numbered_split}
use Rattle.mbj_manager.proofs.lane.leave.Goals as goal

pub leaving-init : goal.leaving-init
leaving-init g c = record {
  ring = record { first = refl; opened = refl; courses = c.requires.ring };
  listed = c.requires.listed;
  room = c.requires.room;
  capacity = refl;
  left = refl;
}

pub leave-requires-clause-ring : goal.leave-requires-clause-ring
leave-requires-clause-ring g c = c.leaving.invariant.ring.courses

pub leave-requires-clause-out : goal.leave-requires-clause-out
leave-requires-clause-out g c = λ p e ws first.
    let t = leaves g.K.JobKernel.kind (ring_number c.args.ring.now) (courses c.leaving.ring) c.leaving.queue.queued ws p e first c.leaving.invariant.listed in
    subst (λ (n : ℕ). At (IsOut g.K.JobKernel.kind e) (number n p) (courses c.leaving.ring)) (sym c.leaving.invariant.ring.first) t.out

pub push-requires : goal.push-requires
push-requires g c =
    let f = ring_number c.args.ring.now in
    let e = c.in-Some.ensures.takes.0 in
    let t = leaves g.K.JobKernel.kind (ring_number c.args.ring.now) (courses c.leaving.ring) c.leaving.queue.queued c.leave.new.self.queued c.in-Some.place
    e c.in-Some.ensures.takes.1.first c.leaving.invariant.listed in
    record {
      place = c.in-Some.ensures.place;
      room = omega (arith, t.shorter, numbered-length f c.leaving.queue.queued, numbered-length f c.leave.new.self.queued, c.leaving.invariant.room);
    }

pub leaving-smaller : goal.leaving-smaller
leaving-smaller g c =
    let f = ring_number c.args.ring.now in
    let e = c.in-Some.ensures.takes.0 in
    let t = leaves g.K.JobKernel.kind (ring_number c.args.ring.now) (courses c.leaving.ring) c.leaving.queue.queued c.leave.new.self.queued c.in-Some.place
    e c.in-Some.ensures.takes.1.first c.leaving.invariant.listed in
    omega (arith, t.shorter, numbered-length f c.leaving.queue.queued, numbered-length f c.leave.new.self.queued)

pub leaving-preserved : goal.leaving-preserved
leaving-preserved g c =
    let f = ring_number c.args.ring.now in
    let i = c.leaving.invariant in
    let cs = courses c.leaving.ring in
    let old = c.leaving.agenda.places.items in
    let q = c.leaving.queue in
    let vs = numbered f c.leave.new.self.queued in
    let p = c.in-Some.place in
    let b = taken_back c.in-Some.ensures.takes.0 in
    let e = c.in-Some.ensures.takes.0 in
    let t = leaves g.K.JobKernel.kind (ring_number c.args.ring.now) (courses c.leaving.ring) c.leaving.queue.queued c.leave.new.self.queued c.in-Some.place
    e c.in-Some.ensures.takes.1.first c.leaving.invariant.listed in
    let same = c.in-Some.ensures.takes.1.same in
    let back : courses c.leave.new.ring ≡ changed b (f p) cs
    = c.in-Some.ensures.takes.2 ∙ ap (λ (n : ℕ). changed b (number n p) cs) i.ring.first in
    record {
      ring = record { first = c.leave.ensures.ring.first ∙ i.ring.first; opened = c.leave.ensures.ring.opened ∙ i.ring.opened; courses = c.leave.ensures.ring.courses };
      listed = subst (λ (x : List CourseState). Listed g.K.JobKernel.kind x vs) (sym back) (listed-changed g.K.JobKernel.kind b (f p) cs vs t.absent t.listed);
      room = rw c.push.ensures.room
          (omega (arith, t.shorter, numbered-length f q.queued, numbered-length f c.leave.new.self.queued, i.room, ap length c.push.ensures.places, length-append old (p ∷ [])));
      capacity = c.push.ensures.room ∙ i.capacity;
      left = rw (back, ap (map f) c.push.ensures.places ∙ map-append f old (p ∷ []), ap (λ (l : PlacedQueue). l.rounds) same, ap (λ (l : PlacedQueue). l.blocks) same)
          (took-left g.K.JobKernel.kind cs (map f old) (numbered f q.queued) _ vs q.rounds q.blocks 0 t) ∙ i.left;
    }

pub returns-in-None-clause-ring : goal.returns-in-None-clause-ring
returns-in-None-clause-ring g c =
    let i = c.leaving.invariant in
    let r = c.leave.ensures.ring in
    record { first = r.first ∙ i.ring.first; opened = r.opened ∙ i.ring.opened; courses = r.courses }

pub returns-in-None-clause-room : goal.returns-in-None-clause-room
returns-in-None-clause-room g c = c.leaving.invariant.capacity

pub returns-in-None-clause-left : goal.returns-in-None-clause-left
returns-in-None-clause-left g c =
    let f = ring_number c.args.ring.now in
    let q = c.leaving.queue in
    let waits = c.in-None.ensures.takes in
    rw (waits.0.same, waits.1)
    (sym (none-left-now (courses c.leaving.ring) (map f c.leaving.agenda.places.items) (numbered f q.queued) q.rounds q.blocks 0
    (numbered-taken f q.queued ∙ ap (option_map (numbered_split f)) waits.0.none)) ∙ c.leaving.invariant.left)
