-- Each line is written behind those before it.
use Rattle.std.proofs.Common.{flat_map}
use Rattle.std.proofs.lemmas.List.{at_drop_all}
use Rattle.std.proofs.lemmas.Result.{err_from_is_err_and}
use Rattle.mbj_text.proofs.Flows.{flows_line, front_line, all_flowed}
use Rattle.mbj_text.proofs.Lines.{next-text}
use Rattle.mbj_text.proofs.text_line.write_lines.Goals as goal

pub loop-line-preserved : goal.loop-line-preserved
loop-line-preserved g c =
    let x = c.line-item.result in
    flows_line c.loop-line.invariant
    (next-text g.L.TextLine.text c.args.lines.now c.loop-line.line-index x x c.loop-line-test.true c.line-item.is) c.in_ok-write.ensures

pub returns-in_err-write : goal.returns-in_err-write
returns-in_err-write g c =
    let x = c.line-item.result in
    let exit = err_from_is_err_and c.from_residual.result c.from_residual.ensures.1 in
    rw exit.1 (front_line _ c.loop-line.invariant
    (next-text g.L.TextLine.text c.args.lines.now c.loop-line.line-index x x c.loop-line-test.true c.line-item.is) c.in_err-write.ensures)

pub returns : goal.returns
returns g c =
    let none = at_drop_all (flat_map g.L.TextLine.text) c.args.lines.now c.loop-line.line-index c.loop-line-test.false in
    all_flowed (rw none at c.loop-line.invariant)
