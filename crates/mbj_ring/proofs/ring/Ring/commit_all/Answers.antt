-- All open values are committed ones.
use Rattle.std.proofs.Common.{◌+◌, ◌++◌, [], refl, ap, ◌∙◌, arith, take_all}
use Rattle.std.proofs.lemmas.List.{drop_all}
use Rattle.mbj_ring.specs.Ring.{ring, all_values}
use Rattle.mbj_ring.specs.Inside.Laid.{state_of}
use Rattle.mbj_ring.proofs.Rings.{open_count, committed}
use Rattle.mbj_ring.proofs.ring.Ring.commit_all.Goals as goal

pub invariant_of-self : goal.invariant_of-self
invariant_of-self g c =
    let r = c.self.inside in let h = c.self.invariant in
    (committed r h (record r { len = r.len + r.open_len; open_len = 0 }) r.open_len refl refl (omega arith) refl).0

pub returns : goal.returns
returns g c =
    let r = c.self.inside in let h = c.self.invariant in let os = (state_of r).opened in let n = open_count r h (state_of r) refl in
    (committed r h (record r { len = r.len + r.open_len; open_len = 0 }) r.open_len refl refl (omega arith) refl).1
    ∙ (λ j. ring ((state_of r).values ++ take_all r.open_len os (omega arith) j) (drop_all r.open_len os (omega arith) j) r.first)
    ∙ ap (λ s. ring (all_values s) [] s.first) c.self.view_is
