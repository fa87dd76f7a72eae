use Rattle.std.proofs.Common.{◌∙◌, ap}
use Rattle.mbj_job_tests.proofs.Gathering.{busy-is-in, hit-is}
use Rattle.mbj_job_tests.proofs.gathered.GatheredSlots.rest_at.Goals as goal

pub place_of-requires : goal.place_of-requires
place_of-requires g c =
    let s = c.self.inside in
    let busy = rw (← c.self.view_is) at c.requires in
    rw c.deref.ensures.value (busy-is-in s.places.items s.entries.items c.args.i busy.0 busy.1)

pub returns : goal.returns
returns g c e there =
    let s = c.self.inside in
    let there' = rw (← c.self.view_is) at there in
    let inside = rw c.deref.ensures.value at c.place_of.ensures.within in
    let is = rw c.deref.ensures.value at c.place_of.ensures.is in
    c.rest.ensures
    ∙ ap g.K.Kernel.rest_of (c.index.ensures
    ∙ hit-is g.K.Kernel.LANES s.places.items s.entries.items c.self.invariant.0 c.place_of.result c.args.i inside is e c.index.result.now there')
