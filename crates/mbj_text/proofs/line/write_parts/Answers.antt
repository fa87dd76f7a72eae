-- The parts are written, and then what waits.
use Rattle.std.proofs.lemmas.Result.{err_from_is_err_and}
use Rattle.mbj_text.proofs.Flows.{writes_then}
use Rattle.mbj_text.proofs.line.write_parts.Goals as goal

pub returns-in_err-put_parts : goal.returns-in_err-put_parts
returns-in_err-put_parts g c =
    let exit = err_from_is_err_and c.from_residual.result c.from_residual.ensures.1 in
    rw exit.1 (rw c.new-piece.ensures at c.in_err-put_parts.ensures)

pub returns : goal.returns
returns g c = writes_then _ _ _ _ _ _ c.finish.result (rw c.new-piece.ensures at c.in_ok-put_parts.ensures) c.finish.ensures
