-- The entry goes back to its course, and its place leaves.
use Rattle.std.proofs.Common.{◌≡◌, ◌<◌, ◌∙◌, ℕ, List, All, Some, get_or, length, refl, ap, sym, subst, arith}
use Rattle.std.proofs.lemmas.List.{get_or_default}
use Rattle.mbj_lane.specs.Rounds.{taken}
use Rattle.mbj_ring.specs.declared.ring.TheConstants.{CELLS}
use Rattle.mbj_stage.specs.Handing.{IsOut, taken_back}
use Rattle.mbj_manager.specs.Cells.{IsGoing, course_in}
use Rattle.mbj_manager.specs.Entries.{HasJobSteps}
use Rattle.mbj_manager.specs.Inside.Courses.{KeepsSteps, ring_number}
use Rattle.mbj_manager.specs.Inside.PlacedQueue.{PlacedQueue, ended, pair_rest, rounds_in, queued_of}
use Rattle.mbj_manager.proofs.JobSteps.{back-steps}
use Rattle.mbj_manager.proofs.RingCourses.{at-cell, courses-set, each-at, live, same-ring}
use Rattle.mbj_manager.proofs.QueuedOf.{all-removed, entry-there, length-removed, queued_of-none, queued_of-take}
use Rattle.mbj_manager.proofs.lane_queue.LaneQueue.leave.Goals as goal

pub place_at-place-requires : goal.place_at-place-requires
place_at-place-requires g c = c.in-Some.ensures.inside

pub at_mut-cell-requires : goal.at_mut-cell-requires
at_mut-cell-requires g c =
    let q = c.self.inside in
    let r = c.args.ring.now in
    let k = c.in-Some.k in
    let p = c.place_at-place.result in
    let inside = c.in-Some.ensures.inside in
    let there = entry-there q.lanes.entries k inside in
    let e = there.0 in
    let is : e ≡ get_or q.lanes.entries k e = there.1 in
    let first = ap (λ (l : PlacedQueue). taken (pair_rest rounds_in) l.queued) (sym c.self.view_is)
    ∙ queued_of-take g.K.Kernel.round g.K.Kernel.rest_of g.K.JobKernel.brings q.lanes.places q.lanes.entries k p e c.self.invariant.0 c.in-Some.ensures c.place_at-place.ensures is in
    let out = c.requires.out p (g.K.JobKernel.brings e) _ first in
    let here : k < length q.lanes.places = omega (arith, c.self.invariant.0, inside) in
    let lt : p < CELLS = rw c.place_at-place.ensures (c.self.invariant.1 k p here) in
    live (IsOut g.K.JobKernel.kind (g.K.JobKernel.brings e)) r p lt out

pub leave_to-requires-clause-going : goal.leave_to-requires-clause-going
leave_to-requires-clause-going g c =
    let r = c.args.ring.now in
    each-at IsGoing (ring_number r c.place_at-place.result) r.values c.at_mut-cell.result.now c.at_mut-cell.ensures.value c.requires.ring.going

pub leave_to-requires-clause-position : goal.leave_to-requires-clause-position
leave_to-requires-clause-position g c = c.in-Some.ensures.inside

pub leave_to-requires-clause-done : goal.leave_to-requires-clause-done
leave_to-requires-clause-done g c = c.in-Some.ensures.done

pub leave_to-requires-clause-out : goal.leave_to-requires-clause-out
leave_to-requires-clause-out g c =
    let q = c.self.inside in
    let r = c.args.ring.now in
    let k = c.in-Some.k in
    let p = c.place_at-place.result in
    let inside = c.in-Some.ensures.inside in
    let there = entry-there q.lanes.entries k inside in
    let e = there.0 in
    let is : e ≡ get_or q.lanes.entries k e = there.1 in
    let first = ap (λ (l : PlacedQueue). taken (pair_rest rounds_in) l.queued) (sym c.self.view_is)
    ∙ queued_of-take g.K.Kernel.round g.K.Kernel.rest_of g.K.JobKernel.brings q.lanes.places q.lanes.entries k p e c.self.invariant.0 c.in-Some.ensures c.place_at-place.ensures is in
    let out = c.requires.out p (g.K.JobKernel.brings e) _ first in
    let cell = c.at_mut-cell.result.now in
    let IsOutWith : g.row.K-Entry.Denot → Type 0 = λ x. IsOut g.K.JobKernel.kind (g.K.JobKernel.brings x) (course_in cell) in
    λ d. subst IsOutWith (is ∙ get_or_default q.lanes.entries k e d inside)
    (at-cell (IsOut g.K.JobKernel.kind (g.K.JobKernel.brings e)) (ring_number r p) r.values cell c.at_mut-cell.ensures.value out)

pub invariant_of-self : goal.invariant_of-self
invariant_of-self g c =
    let q = c.self.inside in
    let y = c.self.invariant in
    let k = c.in-Some.k in
    let inside = c.in-Some.ensures.inside in
    let here : k < length q.lanes.places = omega (arith, y.0, inside) in (
      rw (c.leave_to.ensures.places, c.leave_to.ensures.others)
          (omega (arith, y.0, length-removed q.lanes.places k here, length-removed q.lanes.entries k inside)),
      subst (λ (ps : List ℕ). All (λ p. p < CELLS) ps) (sym c.leave_to.ensures.places) (all-removed (λ p. p < CELLS) q.lanes.places k here y.1),
    )

pub returns-in-None-clause-ring : goal.returns-in-None-clause-ring
returns-in-None-clause-ring g c = record { first = refl; opened = refl; courses = c.requires.ring }

pub returns-in-None-clause-takes : goal.returns-in-None-clause-takes
returns-in-None-clause-takes g c =
    let q = c.self.inside in (
      record {
        none = ap (λ (l : PlacedQueue). taken (pair_rest rounds_in) l.queued) (sym c.self.view_is)
            ∙ queued_of-none g.K.Kernel.round g.K.Kernel.rest_of g.K.JobKernel.brings q.lanes.places q.lanes.entries c.in-None.ensures;
        same = refl;
      },
      refl,
    )

pub returns-in-Some-clause-ring : goal.returns-in-Some-clause-ring
returns-in-Some-clause-ring g c =
    let q = c.self.inside in
    let r = c.args.ring.now in
    let k = c.in-Some.k in
    let p = c.place_at-place.result in
    let inside = c.in-Some.ensures.inside in
    let there = entry-there q.lanes.entries k inside in
    let e = there.0 in
    let is : e ≡ get_or q.lanes.entries k e = there.1 in
    let first = ap (λ (l : PlacedQueue). taken (pair_rest rounds_in) l.queued) (sym c.self.view_is)
    ∙ queued_of-take g.K.Kernel.round g.K.Kernel.rest_of g.K.JobKernel.brings q.lanes.places q.lanes.entries k p e c.self.invariant.0 c.in-Some.ensures c.place_at-place.ensures is in
    let out = c.requires.out p (g.K.JobKernel.brings e) _ first in
    let cell = c.at_mut-cell.result.now in
    same-ring r (ring_number r p) c.leave_to.new.cell c.requires.ring c.leave_to.ensures.going
    (subst HasJobSteps (sym (c.leave_to.ensures.back e)) (back-steps (course_in cell) (g.K.JobKernel.brings (get_or q.lanes.entries k e))
    (each-at KeepsSteps (ring_number r p) r.values cell c.at_mut-cell.ensures.value c.requires.ring.steps)))

pub returns-in-Some-clause-place : goal.returns-in-Some-clause-place
returns-in-Some-clause-place g c =
    let q = c.self.inside in
    let here : c.in-Some.k < length q.lanes.places = omega (arith, c.self.invariant.0, c.in-Some.ensures.inside) in
    rw c.place_at-place.ensures (c.self.invariant.1 c.in-Some.k c.place_at-place.result here)

pub returns-in-Some-clause-takes : goal.returns-in-Some-clause-takes
returns-in-Some-clause-takes g c =
    let q = c.self.inside in
    let r = c.args.ring.now in
    let k = c.in-Some.k in
    let p = c.place_at-place.result in
    let inside = c.in-Some.ensures.inside in
    let there = entry-there q.lanes.entries k inside in
    let e = there.0 in
    let is : e ≡ get_or q.lanes.entries k e = there.1 in
    let first = ap (λ (l : PlacedQueue). taken (pair_rest rounds_in) l.queued) (sym c.self.view_is)
    ∙ queued_of-take g.K.Kernel.round g.K.Kernel.rest_of g.K.JobKernel.brings q.lanes.places q.lanes.entries k p e c.self.invariant.0 c.in-Some.ensures c.place_at-place.ensures is in
    let out = c.requires.out p (g.K.JobKernel.brings e) _ first in
    let see = queued_of g.K.Kernel.round g.K.Kernel.rest_of g.K.JobKernel.brings in
    let cell = c.at_mut-cell.result.now in
    let back = c.leave_to.ensures.back e ∙ ap (λ x. taken_back (g.K.JobKernel.brings x) (course_in cell)) (sym is) in (
      g.K.JobKernel.brings e,
      record {
        first = first ∙ (λ j. Some ((p, ended (g.K.JobKernel.brings e)), see (sym c.leave_to.ensures.places j) (sym c.leave_to.ensures.others j)));
        same = rw (← c.self.view_is) refl;
      },
      courses-set (taken_back (g.K.JobKernel.brings e)) (ring_number r p) r.values cell c.leave_to.new.cell c.at_mut-cell.ensures.value back,
    )
