-- What is queued is advanced as the entries are.
use Rattle.std.proofs.Common.{◌∙◌, ◌<◌, ℕ, List, All, length, ap, sym, subst, arith}
use Rattle.std.proofs.lemmas.List.{length-map}
use Rattle.mbj_lane.specs.Rounds.{after, least}
use Rattle.mbj_lane.proofs.Least.{least-at}
use Rattle.mbj_ring.specs.declared.ring.TheConstants.{CELLS}
use Rattle.mbj_manager.specs.Inside.PlacedQueue.{HasRest, PlacedQueue, placed_queue, pair_rest, rounds_in}
use Rattle.mbj_manager.proofs.QueuedOf.{queued_of-least, queued_of-advanced, queued_of-length, queued_of-some}
use Rattle.mbj_manager.proofs.lane_queue.LaneQueue.run.Goals as goal

pub run_shortest-requires-clause-some : goal.run_shortest-requires-clause-some
run_shortest-requires-clause-some g c =
    let q = c.self.inside in
    omega (
      arith,
      c.requires.some,
      ap (λ (l : PlacedQueue). length l.queued) c.self.view_is,
      queued_of-length g.K.Kernel.round g.K.Kernel.rest_of g.K.JobKernel.brings q.lanes.places q.lanes.entries c.self.invariant.0,
    )

pub run_shortest-requires-clause-rests : goal.run_shortest-requires-clause-rests
run_shortest-requires-clause-rests g c =
    let q = c.self.inside in
    queued_of-some g.K.Kernel.round g.K.Kernel.rest_of g.K.JobKernel.brings q.lanes.places q.lanes.entries c.self.invariant.0
    (subst (λ (l : PlacedQueue). All HasRest l.queued) (sym c.self.view_is) c.requires.rests)

pub invariant_of-self : goal.invariant_of-self
invariant_of-self g c =
    let q = c.self.inside in (
      ap length c.run_shortest.ensures.places ∙ c.self.invariant.0
          ∙ sym (ap length c.run_shortest.ensures.advanced ∙ length-map q.lanes.entries (after g.K.Kernel.round c.run_shortest.result)),
      subst (λ (ps : List ℕ). All (λ p. p < CELLS) ps) (sym c.run_shortest.ensures.places) c.self.invariant.1,
    )

pub returns-clause-least : goal.returns-clause-least
returns-clause-least g c =
    let q = c.self.inside in
    c.run_shortest.ensures.least
    ∙ sym (queued_of-least g.K.Kernel.round g.K.Kernel.rest_of g.K.JobKernel.brings q.lanes.places q.lanes.entries c.self.invariant.0)
    ∙ ap (λ (l : PlacedQueue). least (pair_rest rounds_in) l.queued) c.self.view_is

pub returns-clause-advanced : goal.returns-clause-advanced
returns-clause-advanced g c =
    let q = c.self.inside in
    let m = c.run_shortest.result in
    rw (c.run_shortest.ensures.advanced, c.run_shortest.ensures.places, ← c.self.view_is)
    (ap (λ ws. placed_queue ws q.rounds q.blocks)
    (queued_of-advanced g.K.Kernel.round g.K.Kernel.rest_of g.K.JobKernel.brings m q.lanes.places q.lanes.entries g.met.K.Kernel.falls
    (λ k d l. rw c.run_shortest.ensures.least (least-at g.K.Kernel.rest_of q.lanes.entries k d l))))
