-- No cell is open in the loop, and after it no value is left.
use Rattle.std.proofs.Common.{◌<◌, length, sym, ap, ◌∙◌, arith, length-drop}
use Rattle.std.proofs.lemmas.Option.{slice_get_within}
use Rattle.mbj_ring.proofs.Elements.{none_past}
use Rattle.mbj_ring.proofs.Rings.{value_count, open_count, emptied}
use Rattle.mbj_ring.proofs.ring.Ring.drop.Goals as goal

pub loop-value-init : goal.loop-value-init
loop-value-init g c = ap (λ s. s.opened) c.commit_all.ensures

pub loop-value-smaller : goal.loop-value-smaller
loop-value-smaller g c =
    let vs = c.loop-value.self.values in let some : 0 < length vs = slice_get_within vs 0 c.in-Some._value (sym c.in-Some.ensures.value) in
    omega (arith, ap (λ s. length s.values) c.in-Some.ensures.rest, length-drop 1 vs)

pub loop-value-preserved : goal.loop-value-preserved
loop-value-preserved g c = ap (λ s. s.opened) c.in-Some.ensures.rest ∙ c.loop-value.invariant

pub deallocate-requires : goal.deallocate-requires
deallocate-requires g c =
    let r = c.self.inside in let h = c.self.invariant in let v = c.loop-value.self in let view = c.self.view_is ∙ c.in_default.ensures.rest in
    emptied r h (omega (arith, none_past v.values 0 (sym c.in_default.ensures.value), value_count r h v view, open_count r h v view, ap length c.loop-value.invariant, h.count))
