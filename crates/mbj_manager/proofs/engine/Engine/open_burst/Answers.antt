-- Each turn opens one more, and at the end no more are wanted.
use Rattle.std.proofs.Common.{length, ap, sym, ◌∙◌, arith}
use Rattle.mbj_manager.specs.State.{ManagerState, after_get_next_burst}
use Rattle.mbj_manager.proofs.Turns.{one-more-blank, no-more-blanks}
use Rattle.mbj_manager.proofs.engine.Engine.open_burst.Goals as goal

pub opening-preserved : goal.opening-preserved
opening-preserved c =
    let owes = ap (λ (h : ManagerState). length h.owed) c.opening.invariant in
    ap (after_get_next_burst c.args.n) c.open_cell.ensures
    ∙ one-more-blank c.args.n c.opening.self (omega (arith, owes, c.len.ensures.size, c.min-wanted.ensures, c.opening-test.true, c.open_len.ensures.size)) ∙ c.opening.invariant

pub returns-clause-state : goal.returns-clause-state
returns-clause-state c =
    let owes = ap (λ (h : ManagerState). length h.owed) c.opening.invariant in
    sym (no-more-blanks c.args.n c.opening.self (omega (arith, owes, c.len.ensures.size, c.min-wanted.ensures, c.opening-test.false, c.open_len.ensures.size))) ∙ c.opening.invariant
