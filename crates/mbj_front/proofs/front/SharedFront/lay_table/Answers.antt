use Rattle.std.proofs.Common.{ap, sym, subst, ◌∙◌, ℕ, List}
use Rattle.atomic_table.specs.Table.{opening}
use Rattle.mbj_front.specs.Rule.{Rule, root}
use Rattle.mbj_front.specs.declared.slot.Slot.{Slot}
use Rattle.mbj_front.proofs.Cutting.{starts}
use Rattle.mbj_front.proofs.front.SharedFront.lay_table.Goals as goal

pub new-requires : goal.new-requires
new-requires g c = let s = c.args.submitters in let w = c.args.workers in let P : List ℕ × List (Slot g.row.J.Denot g.row.D.Denot) → Type 0 = λ x. Rule g.R.Results.owed s w (opening x.0 x.1 (root s w 0)) in
    let words = c.deref.ensures.value ∙ c.in_ok-words.ensures.items_if_clones_equal (λ y e. e) in
    subst P (λ i. (sym words i, sym c.in_ok-slots.ensures i)) (starts g.R.Results.owed s w)

pub returns-in-Ok-clause-words : goal.returns-in-Ok-clause-words
returns-in-Ok-clause-words g c = c.in-Ok.ensures.ok.0 ∙ c.deref.ensures.len ∙ c.in_ok-words.ensures.len

pub returns-in-Ok-clause-size : goal.returns-in-Ok-clause-size
returns-in-Ok-clause-size g c = let key = c.in-Ok.ensures.ok.5 in (ap (λ k. k.submitters) key, ap (λ k. k.workers) key)

pub returns-in-Ok-clause-seat : goal.returns-in-Ok-clause-seat
returns-in-Ok-clause-seat g c = let laid = c.in-Ok.ensures.ok in (laid.2, laid.4)
