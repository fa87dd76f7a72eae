use Rattle.std.proofs.Common.{◌∙◌, ap, arith}
use Rattle.mbj_lane.specs.Rounds.{least}
use Rattle.mbj_job_tests.proofs.Gathering.{is-least, at-in}
use Rattle.mbj_job_tests.proofs.gathered.GatheredSlots.least.Goals as goal

pub shortest-requires : goal.shortest-requires
shortest-requires g c =
    let s = c.self.inside in
    let some = rw (← c.self.view_is) at c.requires in
    let r = at-in s.places.items s.entries.items some.0 some.2.0 some.2.1 in
    let inside = r.2 in
    rw c.deref.ensures.value (omega arith)

pub returns : goal.returns
returns g c =
    let s = c.self.inside in
    let some = rw (← c.self.view_is) at c.requires in
    let r = at-in s.places.items s.entries.items some.0 some.2.0 some.2.1 in
    let inside = r.2 in
    rw (← c.self.view_is)
    (is-least g.K.Kernel.LANES s.places.items s.entries.items c.self.invariant.0 g.K.Kernel.rest_of c.shortest.result (omega arith)
    (c.shortest.ensures ∙ ap (least g.K.Kernel.rest_of) c.deref.ensures.value))
