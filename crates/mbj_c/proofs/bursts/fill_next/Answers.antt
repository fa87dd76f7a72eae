-- A job that isn't filled changes nothing, and its code is the wanted one or that of want of memory.
use Rattle.std.proofs.Common.{◌≤◌, Option, length, subst, sym}
use Rattle.std.specs.Prelude.{IfSome}
use Rattle.mbj_c.specs.Filling.{filled_cell}
use Rattle.mbj_c.specs.State.{RangedState}
use Rattle.mbj_c.proofs.Bursting.{untaken-answer, untaken-kept, untaken-state}
use Rattle.mbj_c.proofs.Refused.{refused-for-another, refused-kept}
use Rattle.mbj_c.proofs.bursts.fill_next.Goals as goal

pub returns-in-Err-clause-answer : goal.returns-in-Err-clause-answer
returns-in-Err-clause-answer c =
    let before = c.args.handle.now.manager in
    let want = filled_cell c.args.filled.now c.args.raw.now before in
    untaken-answer want.0 want.1 before c.fill_cell.new.handle.manager c.in-Err.reason c.code.result c.code.ensures c.in-Err.ensures.done
    (refused-for-another c.args.filled.now c.args.raw.now before)

pub returns-in-Err-clause-state : goal.returns-in-Err-clause-state
returns-in-Err-clause-state c =
    let before = c.args.handle.now.manager in
    let want = filled_cell c.args.filled.now c.args.raw.now before in
    untaken-state c.args.filled.now want.0 want.1 before c.fill_cell.new.handle.manager c.in-Err.reason c.code.result c.code.ensures
    c.in-Err.ensures.done (refused-kept c.args.filled.now c.args.raw.now before)

pub returns-in-Err-clause-cell : goal.returns-in-Err-clause-cell
returns-in-Err-clause-cell c =
    let before = c.args.handle.now.manager in
    let want = filled_cell c.args.filled.now c.args.raw.now before in
    subst (λ (m : Option RangedState). IfSome m (λ k. c.args.filled.now ≤ length k.manager.opened))
    (sym (untaken-kept want.0 want.1 before c.fill_cell.new.handle.manager c.in-Err.reason c.in-Err.ensures.done
    (refused-kept c.args.filled.now c.args.raw.now before))) c.requires.cell
