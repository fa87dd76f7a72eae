-- The first open cell's value is lent, and what is written there is the first open value.
use Rattle.std.proofs.Common.{◌≡◌, ◌+◌, ◌%◌, ◌<◌, sym, ap, ◌∙◌, inl, arith}
use Rattle.mbj_ring.specs.declared.ring.TheConstants.{CELLS}
use Rattle.mbj_ring.proofs.Rings.{open_read, open_filled, open_written}
use Rattle.mbj_ring.proofs.ring.Ring.open_mut.Goals as goal

pub get_mut-requires : goal.get_mut-requires
get_mut-requires g c =
    let r = c.self.inside in let none : r.len ≡ r.len + 0 = omega arith in
    open_filled r c.self.invariant 0 c.place_after-next.result (omega (arith, c.if-self-eq0.false)) (c.place_after-next.ensures ∙ ap (λ k. (r.first + k) % CELLS) none)

pub invariant_of-self-lent : goal.invariant_of-self-lent
invariant_of-self-lent g c = λ w.
    let r = c.self.inside in let none : r.len ≡ r.len + 0 = omega arith in
    (open_written r c.self.invariant 0 c.place_after-next.result (omega (arith, c.if-self-eq0.false)) (c.place_after-next.ensures ∙ ap (λ k. (r.first + k) % CELLS) none) w).0

pub returns : goal.returns
returns g c =
    let r = c.self.inside in let h = c.self.invariant in let none : r.len ≡ r.len + 0 = omega arith in
    let some : 0 < r.open_len = omega (arith, c.if-self-eq0.false) in let at = c.place_after-next.ensures ∙ ap (λ k. (r.first + k) % CELLS) none in
    rw (← c.self.view_is) (
      λ i. inl (c.get_mut.result.ghost_name, λ w. (open_written r h 0 c.place_after-next.result some at w).1 i),
      record { writes_back = tt; value = sym c.get_mut.ensures.value ∙ open_read r h 0 c.place_after-next.result some at },
    )
