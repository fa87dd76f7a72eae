-- Whoever joins has room, since there are as many jobs queued as entries. The course at the place changes, and no other.
use Rattle.std.proofs.Common.{◌≡◌, ◌∷◌, [], ◌<◌, ◌∙◌, ℕ, List, All, length, ap, sym, subst, arith}
use Rattle.std.proofs.lemmas.List.{length-append}
use Rattle.std.proofs.lemmas.List.Elements.{All-append, All-cons, All-nil}
use Rattle.mbj_lane.specs.Rounds.{end_of}
use Rattle.mbj_ring.specs.declared.ring.TheConstants.{CELLS}
use Rattle.mbj_stage.specs.Handing.{IsNext, handed_out}
use Rattle.mbj_manager.specs.Cells.{IsGoing, course_in}
use Rattle.mbj_manager.specs.Entries.{HasJobSteps}
use Rattle.mbj_manager.specs.Inside.Courses.{KeepsSteps, ring_number}
use Rattle.mbj_manager.specs.Inside.Leaving.{Gives}
use Rattle.mbj_manager.specs.Inside.PlacedQueue.{PlacedQueue, entry_view, placed_queue}
use Rattle.mbj_manager.proofs.JobSteps.{out-steps}
use Rattle.mbj_manager.proofs.RingCourses.{at-cell, cell-at, courses-set, each-at, live, same-ring}
use Rattle.mbj_manager.proofs.QueuedOf.{queued_of-join, queued_of-length}
use Rattle.mbj_manager.proofs.lane_queue.LaneQueue.join.Goals as goal

pub at_mut-cell-requires : goal.at_mut-cell-requires
at_mut-cell-requires g c = live (IsNext g.K.JobKernel.kind) c.args.ring.now c.args.place c.requires.place c.requires.next

pub join_from-requires-clause-going : goal.join_from-requires-clause-going
join_from-requires-clause-going g c =
    let r = c.args.ring.now in
    each-at IsGoing (ring_number r c.args.place) r.values c.at_mut-cell.result.now c.at_mut-cell.ensures.value c.requires.ring.going

pub join_from-requires-clause-next : goal.join_from-requires-clause-next
join_from-requires-clause-next g c =
    let r = c.args.ring.now in
    at-cell (IsNext g.K.JobKernel.kind) (ring_number r c.args.place) r.values c.at_mut-cell.result.now c.at_mut-cell.ensures.value c.requires.next

pub join_from-requires-clause-free : goal.join_from-requires-clause-free
join_from-requires-clause-free g c =
    let q = c.self.inside in
    omega (
      arith,
      c.requires.free,
      ap (λ (l : PlacedQueue). length l.queued) c.self.view_is,
      queued_of-length g.K.Kernel.round g.K.Kernel.rest_of g.K.JobKernel.brings q.lanes.places q.lanes.entries c.self.invariant.0,
    )

pub invariant_of-self : goal.invariant_of-self
invariant_of-self g c =
    let q = c.self.inside in
    let e = c.join_from.ensures.entry.0 in (
      (let same : length q.lanes.places ≡ length q.lanes.entries = c.self.invariant.0 in
          rw (c.join_from.ensures.entry.1, c.join_from.ensures.places) (omega (arith, length-append q.lanes.places (c.args.place ∷ []), length-append q.lanes.entries (e ∷ [])))),
      subst (λ (ps : List ℕ). All (λ p. p < CELLS) ps) (sym c.join_from.ensures.places)
          (All-append (λ p. p < CELLS) q.lanes.places _ c.self.invariant.1 (All-cons (λ p. p < CELLS) _ [] c.requires.place (All-nil (λ p. p < CELLS)))),
    )

pub returns-clause-ring : goal.returns-clause-ring
returns-clause-ring g c =
    let r = c.args.ring.now in
    same-ring r (ring_number r c.args.place) c.join_from.new.cell c.requires.ring c.join_from.ensures.going
    (subst HasJobSteps (sym c.join_from.ensures.out) (out-steps (course_in c.at_mut-cell.result.now)
    (each-at KeepsSteps (ring_number r c.args.place) r.values c.at_mut-cell.result.now c.at_mut-cell.ensures.value c.requires.ring.steps)))

pub returns-clause-out : goal.returns-clause-out
returns-clause-out g c =
    let r = c.args.ring.now in
    courses-set handed_out (ring_number r c.args.place) r.values c.at_mut-cell.result.now c.join_from.new.cell c.at_mut-cell.ensures.value c.join_from.ensures.out

pub returns-clause-joins : goal.returns-clause-joins
returns-clause-joins g c =
    let q = c.self.inside in
    let r = c.args.ring.now in
    let k = g.K.Kernel in
    let e = c.join_from.ensures.entry.0 in
    let a = entry_view g.K.Kernel.round g.K.Kernel.rest_of g.K.JobKernel.brings e in
    record {
      entry = a;
      some = c.join_from.ensures.entry.2;
      gives = cell-at (Gives g.K.JobKernel.kind (g.K.Kernel.rest_of e) (g.K.JobKernel.brings (end_of g.K.Kernel.round g.K.Kernel.rest_of e)))
          (ring_number r c.args.place) r.values c.at_mut-cell.result.now c.at_mut-cell.ensures.value c.join_from.ensures.entry.3;
      is = rw (c.join_from.ensures.places, c.join_from.ensures.entry.1, ← c.self.view_is)
          (ap (λ ws. placed_queue ws q.rounds q.blocks)
          (queued_of-join g.K.Kernel.round g.K.Kernel.rest_of g.K.JobKernel.brings q.lanes.places q.lanes.entries c.args.place e c.self.invariant.0));
    }
