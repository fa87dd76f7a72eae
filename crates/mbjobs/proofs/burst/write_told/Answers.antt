-- The lines of the calls are written, and then those of the results.
use Rattle.std.proofs.lemmas.Result.{err_from_is_err_and}
use Rattle.mbj_text.specs.Line.{text}
use Rattle.mbj_text.proofs.Flows.{front_with, writes_both}
use Rattle.mbjobs.proofs.burst.write_told.Goals as goal

pub returns-in_err-write_lines : goal.returns-in_err-write_lines
returns-in_err-write_lines g c =
    let exit = err_from_is_err_and c.from_residual.result c.from_residual.ensures.1 in
    let lines = rw c.deref.ensures.value at c.in_err-write_lines.ensures in
    rw exit.1 (front_with (text c.args.told.now.results.items) lines)

pub returns : goal.returns
returns g c =
    let lines = rw c.deref.ensures.value at c.in_ok-write_lines.ensures in
    let results = rw c.deref-2.ensures.value at c.write_list.ensures in
    writes_both _ _ _ _ _ _ (text c.args.told.now.results.items) c.write_list.result lines results
