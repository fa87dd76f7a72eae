-- A ring, an agenda and lane queues with nothing in them hold a new manager.
use Rattle.std.proofs.Common.{◌≡◌, ◌≤◌, ◌∙◌, ℕ, List, [], refl, ap, sym, subst, rules, vec_capacity}
use mathlib.Core.Path.{fun_ext}
use Rattle.mbj_types.specs.declared.kind.Kind.{Kind}
use Rattle.mbj_types.specs.declared.kind.Kind.TheVariants as kind
use Rattle.mbj_ring.specs.Ring.{RingState, ring}
use Rattle.mbj_manager.specs.Cells.{Cell}
use Rattle.mbj_manager.specs.Machine.Queues.{Queue, idle_queue}
use Rattle.mbj_manager.specs.State.{new_manager}
use Rattle.mbj_manager.specs.declared.lane_queues.LaneQueues.{LaneQueues}
use Rattle.mbj_manager.specs.Inside.LaneQueues.{no_queues}
use Rattle.mbj_manager.specs.Inside.Held.{IsHeld, agenda_room, held, lane_seen, lines_in}
use Rattle.mbj_manager.proofs.engine.Engine.new.Goals as goal

abbrev nothing : RingState Cell
nothing = ring [] [] 0

idle-seen : (k : Kind) → lane_seen (lines_in nothing no_queues k) ≡ idle_queue
idle-seen kind.Cbc128 = refl
idle-seen _ = refl

empty-held : held nothing [] no_queues ≡ new_manager
empty-held = ap (λ (f : Kind → Queue). record new_manager { machine = record { left = []; lanes = f; agenda = []; flush_runs = 0 } }) (fun_ext idle-seen)

-- what the fields keep, if nothing is in them
empty-kept : (capacity : ℕ) → agenda_room ≤ capacity → IsHeld nothing [] no_queues capacity
empty-kept capacity room = record {
  ring = Prim.search rules;
  is_open = Prim.search rules;
  within = Prim.search rules;
  tied = Prim.search rules;
  fits = Prim.search rules;
  room = room;
}

pub invariant_of-result : goal.invariant_of-result
invariant_of-result c =
    let agenda = c.in_ok-new-2.field-0 in
    let capacity = vec_capacity agenda.places in
    let queues = c.in_ok-new-4.field-0 in
    subst (λ (r : RingState Cell). IsHeld r agenda.places.items queues.value capacity) (sym c.in_ok-new.ensures)
    (subst (λ (ag : List ℕ). IsHeld nothing ag queues.value capacity) (sym c.in_ok-new-2.ensures.places)
    (subst (λ (ls : LaneQueues). IsHeld nothing [] ls capacity) (sym (c.in_ok-new-4.ensures.ok ∙ c.in_ok-new-3.ensures))
    (empty-kept capacity (subst (λ n. n ≤ capacity) c.agenda_room.ensures c.in_ok-new-2.ensures.room))))

pub returns : goal.returns
returns c =
    ap (λ (ls : LaneQueues). held c.in_ok-new.field-0 c.in_ok-new-2.field-0.places.items ls) c.in_ok-new-4.ensures.ok
    ∙ ap (λ (r : RingState Cell). held r c.in_ok-new-2.field-0.places.items c.in_ok-new-3.field-0) c.in_ok-new.ensures
    ∙ ap (λ (ag : List ℕ). held nothing ag c.in_ok-new-3.field-0) c.in_ok-new-2.ensures.places
    ∙ ap (λ (ls : LaneQueues). held nothing [] ls) c.in_ok-new-3.ensures
    ∙ empty-held
