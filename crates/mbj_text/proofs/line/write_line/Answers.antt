-- The parts are written, and LF behind them.
use Rattle.std.proofs.Common.{codes}
use Rattle.std.proofs.lemmas.Result.{err_from_is_err_and}
use Rattle.mbj_text.proofs.Flows.{flows_more, flows_then, front_then, front_with, writes_then}
use Rattle.mbj_text.proofs.Lines.{text_before-cut}
use Rattle.mbj_text.proofs.line.write_line.Goals as goal

pub returns-in_err-put_parts : goal.returns-in_err-put_parts
returns-in_err-put_parts g c =
    let exit = err_from_is_err_and c.from_residual.result c.from_residual.ensures.1 in
    rw (exit.1, text_before-cut c.args.parts.now (codes "\n")) (front_with (codes "\n") (rw c.new-piece.ensures at c.in_err-put_parts.ensures))

pub returns-in_err-put : goal.returns-in_err-put
returns-in_err-put g c =
    let residual = c.from_residual-in_err-put in
    let exit = err_from_is_err_and residual.result residual.ensures.1 in
    rw (exit.1, text_before-cut c.args.parts.now (codes "\n"))
    (front_then (flows_more (codes "\n") (rw c.new-piece.ensures at c.in_ok-put_parts.ensures)) c.in_err-put.ensures)

pub returns : goal.returns
returns g c =
    rw (text_before-cut c.args.parts.now (codes "\n"))
    (writes_then _ _ _ _ _ _ c.finish.result
    (flows_then (flows_more (codes "\n") (rw c.new-piece.ensures at c.in_ok-put_parts.ensures)) c.in_ok-put.ensures) c.finish.ensures)
