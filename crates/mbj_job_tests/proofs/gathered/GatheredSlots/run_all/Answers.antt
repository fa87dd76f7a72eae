use Rattle.std.proofs.Common.{arith}
use Rattle.mbj_lane.specs.Rounds.{after}
use Rattle.mbj_lane.proofs.Advanced.{written-back}
use Rattle.mbj_job_tests.proofs.Gathering.{few-entries, slot-of, at-map}
use Rattle.mbj_job_tests.proofs.gathered.GatheredSlots.run_all.Goals as goal

pub run-requires-clause-lanes : goal.run-requires-clause-lanes
run-requires-clause-lanes g c =
    let s = c.self.inside in
    rw c.deref_mut.ensures.value (few-entries g.K.Kernel.LANES s.places.items s.entries.items c.self.invariant.0)

pub run-requires-clause-rests : goal.run-requires-clause-rests
run-requires-clause-rests g c =
    let s = c.self.inside in
    let rests = rw (← c.self.view_is) at c.requires in
    rw c.deref_mut.ensures.value (λ k d lt.
    let w = slot-of g.K.Kernel.LANES s.places.items s.entries.items c.self.invariant.0 k d lt in rests w.0 _ w.1 w.2)

pub returns : goal.returns
returns g c =
    let s = c.self.inside in
    let advanced = after g.K.Kernel.round c.args.m in
    let all = s.entries in
    let is = written-back advanced all.len all.items _ _ (omega (arith, all.ok.0)) c.deref_mut.ensures.value c.run.ensures in
    λ i lt. rw (is, ← c.self.view_is) (at-map advanced s.places.items s.entries.items i)
