-- The open cell's value is lent, and what is written there is that open value.
use Rattle.std.proofs.Common.{◌<◌, refl, sym, ◌∙◌, arith}
use Rattle.mbj_ring.proofs.Rings.{open_count, open_read, open_filled, open_written}
use Rattle.mbj_ring.proofs.ring.Ring.open_at.Goals as goal

pub get_mut-requires : goal.get_mut-requires
get_mut-requires g c =
    let r = c.self.inside in let h = c.self.invariant in
    open_filled r h c.args.number c.place_after-next.result (omega (arith, c.requires, open_count r h c.args.self.now c.self.view_is)) c.place_after-next.ensures

pub invariant_of-self-lent : goal.invariant_of-self-lent
invariant_of-self-lent g c = λ w.
    let r = c.self.inside in let h = c.self.invariant in
    (open_written r h c.args.number c.place_after-next.result (omega (arith, c.requires, open_count r h c.args.self.now c.self.view_is)) c.place_after-next.ensures w).0

pub returns : goal.returns
returns g c =
    let r = c.self.inside in let h = c.self.invariant in let i = c.args.number in let p = c.place_after-next.result in let at = c.place_after-next.ensures in
    let there : i < r.open_len = omega (arith, c.requires, open_count r h c.args.self.now c.self.view_is) in
    rw (← c.self.view_is) (
      (refl, λ w j. (open_written r h i p there at w).1 j),
      record { writes_back = tt; value = sym (open_read r h i p there at) ∙ c.get_mut.ensures.value },
    )
