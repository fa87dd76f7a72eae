-- The first open value is the last committed one.
use Rattle.std.proofs.Common.{◌+◌, ◌-◌, refl, ap, ◌∙◌, arith}
use Rattle.mbj_ring.specs.Ring.{with_committed}
use Rattle.mbj_ring.proofs.Rings.{open_count, committed}
use Rattle.mbj_ring.proofs.ring.Ring.commit.Goals as goal

pub overflow_sub-self : goal.overflow_sub-self
overflow_sub-self g c = omega (arith, open_count c.self.inside c.self.invariant c.args.self.now c.self.view_is, c.requires.is_open)

pub invariant_of-self : goal.invariant_of-self
invariant_of-self g c =
    let r = c.self.inside in let h = c.self.invariant in
    (committed r h (record r { len = r.len + 1; open_len = r.open_len - 1 }) 1 refl refl (omega (arith, open_count r h c.args.self.now c.self.view_is, c.requires.is_open)) refl).0

pub returns-clause-values : goal.returns-clause-values
returns-clause-values g c =
    let r = c.self.inside in let h = c.self.invariant in
    (committed r h (record r { len = r.len + 1; open_len = r.open_len - 1 }) 1 refl refl (omega (arith, open_count r h c.args.self.now c.self.view_is, c.requires.is_open)) refl).1
    ∙ ap (λ s. with_committed s 1) c.self.view_is
