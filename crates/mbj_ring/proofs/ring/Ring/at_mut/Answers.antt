-- The value at the place is lent, and what is written there is that value.
use Rattle.std.proofs.Common.{◌<◌, refl, sym, subst, ◌∙◌, arith}
use Rattle.mbj_ring.specs.declared.ring.TheConstants.{CELLS}
use Rattle.mbj_ring.specs.Ring.{IsLive, number_at}
use Rattle.mbj_ring.specs.Inside.Laid.{state_of}
use Rattle.mbj_ring.proofs.Places.{number_place}
use Rattle.mbj_ring.proofs.Rings.{value_count, live_read, live_filled, live_written}
use Rattle.mbj_ring.proofs.ring.Ring.at_mut.Goals as goal

pub get_mut-requires : goal.get_mut-requires
get_mut-requires g c =
    let r = c.self.inside in let h = c.self.invariant in let p = c.args.place in let l : IsLive (state_of r) p = subst (λ s. IsLive s p) (sym c.self.view_is) c.requires in
    live_filled r h (number_at (state_of r) p) p (omega (arith, l.1, value_count r h (state_of r) refl)) (sym (number_place CELLS r.first p h.within.1 l.0).1)

pub invariant_of-self-lent : goal.invariant_of-self-lent
invariant_of-self-lent g c = λ w.
    let r = c.self.inside in let h = c.self.invariant in let p = c.args.place in let l : IsLive (state_of r) p = subst (λ s. IsLive s p) (sym c.self.view_is) c.requires in
    (live_written r h (number_at (state_of r) p) p (omega (arith, l.1, value_count r h (state_of r) refl)) (sym (number_place CELLS r.first p h.within.1 l.0).1) w).0

pub returns : goal.returns
returns g c =
    let r = c.self.inside in let h = c.self.invariant in let p = c.args.place in let l : IsLive (state_of r) p = subst (λ s. IsLive s p) (sym c.self.view_is) c.requires in
    let i = number_at (state_of r) p in let live : i < r.len = omega (arith, l.1, value_count r h (state_of r) refl) in let at = sym (number_place CELLS r.first p h.within.1 l.0).1 in
    rw (← c.self.view_is) (
      (refl, λ w j. (live_written r h i p live at w).1 j),
      record { writes_back = tt; value = sym (live_read r h i p live at) ∙ c.get_mut.ensures.value },
    )
