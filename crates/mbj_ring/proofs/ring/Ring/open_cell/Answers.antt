-- The next cell is empty, and then holds the last open value.
use Rattle.std.proofs.Common.{◌+◌, ◌%◌, ◌<◌, length, set, get_or, Some, None, refl, sym, ap, ◌∙◌, arith}
use Rattle.std.proofs.lemmas.Option.{slice_get_past}
use Rattle.mbj_ring.specs.declared.ring.TheConstants.{CELLS}
use Rattle.mbj_ring.specs.Ring.{with_open_last}
use Rattle.mbj_ring.specs.Inside.Laid.{found}
use Rattle.mbj_ring.proofs.Places.{wraps}
use Rattle.mbj_ring.proofs.Rings.{all_count, reads, opened}
use Rattle.mbj_ring.proofs.ring.Ring.open_cell.Goals as goal

pub write-requires : goal.write-requires
write-requires g c =
    let r = c.self.inside in let h = c.self.invariant in let n = length (found r) in let few : n < CELLS = omega (arith, all_count r h c.args.self.now c.self.view_is, c.requires) in
    let at = c.place_after-next.ensures ∙ ap (λ k. (r.first + k) % CELLS) (sym h.count) in let inside = wraps r.first n CELLS h.within.1 few in
    (omega (arith, at, inside.0, h.cells), ap (λ p. get_or r.cells.held p None) at ∙ reads r h n few ∙ slice_get_past (found r) n (omega arith))

pub invariant_of-self : goal.invariant_of-self
invariant_of-self g c =
    let r = c.self.inside in let h = c.self.invariant in let few : length (found r) < CELLS = omega (arith, all_count r h c.args.self.now c.self.view_is, c.requires) in
    let x = c.args.value in let at = c.place_after-next.ensures ∙ ap (λ k. (r.first + k) % CELLS) (sym h.count) in let held = c.write.ensures ∙ ap (λ p. set r.cells.held p (Some x)) at in
    (opened r h (record r { cells = c.write.new.self; open_len = r.open_len + 1 }) x few refl refl refl held).0

pub returns : goal.returns
returns g c =
    let r = c.self.inside in let h = c.self.invariant in let few : length (found r) < CELLS = omega (arith, all_count r h c.args.self.now c.self.view_is, c.requires) in
    let x = c.args.value in let at = c.place_after-next.ensures ∙ ap (λ k. (r.first + k) % CELLS) (sym h.count) in let held = c.write.ensures ∙ ap (λ p. set r.cells.held p (Some x)) at in
    (opened r h (record r { cells = c.write.new.self; open_len = r.open_len + 1 }) x few refl refl refl held).1
    ∙ ap (λ s. with_open_last s x) c.self.view_is
