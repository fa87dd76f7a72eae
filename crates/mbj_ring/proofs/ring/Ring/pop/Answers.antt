-- The first cell's value is moved out, and the next one is first.
use Rattle.std.proofs.Common.{◌-◌, ◌<◌, refl, sym, ap, ◌∙◌, arith}
use Rattle.mbj_ring.specs.declared.ring.TheConstants.{CELLS}
use Rattle.mbj_ring.specs.Ring.{without_first}
use Rattle.mbj_ring.specs.Inside.Laid.{found}
use Rattle.mbj_ring.proofs.Elements.{uncons}
use Rattle.mbj_ring.proofs.Places.{same_place}
use Rattle.mbj_ring.proofs.Rings.{least, live_read, live_filled, popped}
use Rattle.mbj_ring.proofs.ring.Ring.pop.Goals as goal

pub read-requires : goal.read-requires
read-requires g c =
    let r = c.self.inside in let h = c.self.invariant in live_filled r h 0 r.first (omega (arith, c.if-self-eq0.false)) (same_place CELLS r.first h.within.1)

pub invariant_of-self : goal.invariant_of-self
invariant_of-self g c =
    let r = c.self.inside in let h = c.self.invariant in let live : 0 < r.len = omega (arith, c.if-self-eq0.false) in
    let split = uncons (found r) (omega (arith, least r h)) in
    (popped r h (record r { cells = c.read.new.self; first = c.place_after-self-inside.result; len = r.len - 1 }) split.0 split.1 split.2 c.place_after-self-inside.ensures (omega arith) refl c.read.ensures.held).0

pub returns-clause-value : goal.returns-clause-value
returns-clause-value g c =
    let r = c.self.inside in let h = c.self.invariant in
    rw (← c.self.view_is) (sym c.read.ensures.value ∙ live_read r h 0 r.first (omega (arith, c.if-self-eq0.false)) (same_place CELLS r.first h.within.1))

pub returns-clause-rest : goal.returns-clause-rest
returns-clause-rest g c =
    let r = c.self.inside in let h = c.self.invariant in let live : 0 < r.len = omega (arith, c.if-self-eq0.false) in
    let split = uncons (found r) (omega (arith, least r h)) in
    (popped r h (record r { cells = c.read.new.self; first = c.place_after-self-inside.result; len = r.len - 1 }) split.0 split.1 split.2 c.place_after-self-inside.ensures (omega arith) refl c.read.ensures.held).1
    ∙ ap without_first c.self.view_is
