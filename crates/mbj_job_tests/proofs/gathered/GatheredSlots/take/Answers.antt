use Rattle.std.proofs.Common.{◌∙◌, ap, sym, Some, arith}
use Rattle.mbj_job_tests.proofs.Gathering.{busy-is-in, take-gathered, take-written, at-hit}
use Rattle.mbj_job_tests.proofs.gathered.GatheredSlots.take.Goals as goal

pub place_of-k-requires : goal.place_of-k-requires
place_of-k-requires g c =
    let s = c.self.inside in
    let busy = rw (← c.self.view_is) at c.requires.busy in
    rw c.deref.ensures.value (busy-is-in s.places.items s.entries.items c.args.i busy.0 busy.1)

pub invariant_of-self : goal.invariant_of-self
invariant_of-self g c =
    let s = c.self.inside in
    let inside = rw c.deref.ensures.value at c.place_of-k.ensures.within in
    let is = rw c.deref.ensures.value at c.place_of-k.ensures.is in
    rw (c.remove.ensures.items, c.remove-2.ensures.items) (
      take-gathered g.K.Kernel.LANES s.places.items s.entries.items c.self.invariant.0 c.place_of-k.result c.args.i inside is,
      omega arith,
      omega arith,
    )

pub returns-clause-taken : goal.returns-clause-taken
returns-clause-taken g c =
    let s = c.self.inside in
    let inside = rw c.deref.ensures.value at c.place_of-k.ensures.within in
    let is = rw c.deref.ensures.value at c.place_of-k.ensures.is in
    rw (← c.self.view_is) (
    at-hit s.places.items s.entries.items c.place_of-k.result c.args.i c.remove-2.result c.self.invariant.0.apart c.self.invariant.0.same inside is
    ∙ ap Some (sym c.remove-2.ensures.value))

pub returns-clause-idle : goal.returns-clause-idle
returns-clause-idle g c =
    let s = c.self.inside in
    let inside = rw c.deref.ensures.value at c.place_of-k.ensures.within in
    let is = rw c.deref.ensures.value at c.place_of-k.ensures.is in
    rw (c.remove.ensures.items, c.remove-2.ensures.items, ← c.self.view_is)
    (take-written g.K.Kernel.LANES s.places.items s.entries.items c.self.invariant.0 c.place_of-k.result c.args.i inside is)
