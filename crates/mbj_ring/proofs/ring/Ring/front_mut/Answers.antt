-- The first cell's value is lent, and what is written there is the first value.
use Rattle.std.proofs.Common.{◌<◌, sym, ◌∙◌, inl, arith}
use Rattle.mbj_ring.specs.declared.ring.TheConstants.{CELLS}
use Rattle.mbj_ring.proofs.Places.{same_place}
use Rattle.mbj_ring.proofs.Rings.{live_read, live_filled, live_written}
use Rattle.mbj_ring.proofs.ring.Ring.front_mut.Goals as goal

pub get_mut-requires : goal.get_mut-requires
get_mut-requires g c =
    let r = c.self.inside in let h = c.self.invariant in live_filled r h 0 r.first (omega (arith, c.if-self-eq0.false)) (same_place CELLS r.first h.within.1)

pub invariant_of-self-lent : goal.invariant_of-self-lent
invariant_of-self-lent g c =
    λ w. let r = c.self.inside in let h = c.self.invariant in (live_written r h 0 r.first (omega (arith, c.if-self-eq0.false)) (same_place CELLS r.first h.within.1) w).0

pub returns : goal.returns
returns g c =
    let r = c.self.inside in let h = c.self.invariant in let live : 0 < r.len = omega (arith, c.if-self-eq0.false) in let at = same_place CELLS r.first h.within.1 in
    rw (← c.self.view_is) (
      λ i. inl (c.get_mut.result.ghost_name, λ w. (live_written r h 0 r.first live at w).1 i),
      record { writes_back = tt; value = sym c.get_mut.ensures.value ∙ live_read r h 0 r.first live at },
    )
