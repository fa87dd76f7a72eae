-- The handle has what the manager's own filling left.
use Rattle.std.proofs.Common.{◌≡◌, Option, Some, subst, sym}
use Rattle.mbj_c.specs.Filling.{filled_at, filled_cell}
use Rattle.mbj_c.specs.Inside.Answers.{IsDone}
use Rattle.mbj_c.specs.State.{RangedState}
use Rattle.mbj_c.proofs.Answered.{done-some}
use Rattle.mbj_c.proofs.calls.fill_cell.Goals as goal

pub returns-clause-done : goal.returns-clause-done
returns-clause-done c =
    let k : RangedState = c.in-Some.manager.value in
    let after : RangedState = c.fill-answer.new.self in
    let want = filled_at c.args.cell c.args.raw.now k in
    let same : c.deref_mut.result.now ≡ k = c.deref_mut.ensures.value in
    let done : IsDone want k c.fill-answer.result after =
    subst (λ (m : RangedState). IsDone (filled_at c.args.cell c.args.raw.now m) m c.fill-answer.result after) same c.fill-answer.ensures.done in
    subst (λ (m : Option RangedState). IsDone (filled_cell c.args.cell c.args.raw.now m) m c.fill-answer.result c.put.new.self.manager)
    c.in-Some.ensures.manager
    (subst (λ (m : Option RangedState). IsDone (filled_cell c.args.cell c.args.raw.now (Some k)) (Some k) c.fill-answer.result m) (sym c.put.ensures)
    (done-some want.0 want.1 k c.fill-answer.result after done))
