-- The cell takes the place of an open one.
use Rattle.std.proofs.Common.{◌<◌, ◌∙◌, List, ap, arith, length, set, subst, sym, vec_capacity}
use Rattle.std.proofs.lemmas.List.{length-map, map-set}
use Rattle.std.proofs.lemmas.List.Elements.{All-set}
use Rattle.mbj_types.specs.declared.job.Job.{Job}
use Rattle.mbj_ring.specs.Ring.{RingState}
use Rattle.mbj_manager.specs.State.{ManagerState, with_open_at}
use Rattle.mbj_manager.specs.Cells.{Cell, IsOpen, job_in}
use Rattle.mbj_manager.specs.Inside.Held.{IsHeld, held}
use Rattle.mbj_manager.proofs.RingCourses.{open-held}
use Rattle.mbj_manager.proofs.engine.Engine.exchange.Goals as goal

pub exchange-requires : goal.exchange-requires
exchange-requires c =
    let some = subst (λ (h : ManagerState). c.args.number < length h.opened) (sym c.self.view_is) c.requires.number in
    omega (arith, some, length-map c.self.inside.ring.opened job_in)

pub invariant_of-self : goal.invariant_of-self
invariant_of-self c =
    let w = c.self.inside in
    subst (λ (r : RingState Cell). IsHeld r w.agenda.places.items w.queues.value (vec_capacity w.agenda.places)) (sym c.exchange.ensures.rest)
    (open-held w.ring (set w.ring.opened c.args.number c.args.other.now) w.agenda.places.items w.queues.value (vec_capacity w.agenda.places)
    (All-set IsOpen w.ring.opened c.args.number c.args.other.now c.requires.is_open c.self.invariant.is_open) c.self.invariant)

pub returns : goal.returns
returns c =
    let w = c.self.inside in
    ap (λ (r : RingState Cell). held r w.agenda.places.items w.queues.value) c.exchange.ensures.rest
    ∙ ap (λ (js : List Job). record (held w.ring w.agenda.places.items w.queues.value) { opened = js })
    (map-set job_in w.ring.opened c.args.number c.args.other.now)
    ∙ ap (λ (h : ManagerState). with_open_at h c.args.number (job_in c.args.other.now)) c.self.view_is
