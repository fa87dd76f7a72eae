-- Each result's line is written behind those before it.
use Rattle.std.proofs.Common.{◌≡◌, [], arith, drop}
use Rattle.std.proofs.lemmas.List.{drop_all}
use Rattle.std.proofs.lemmas.Result.{err_from_is_err_and}
use Rattle.mbj_text.specs.Line.{text}
use Rattle.mbj_text.proofs.Flows.{all_flowed, flows_line, flows_start, front_line}
use Rattle.mbjobs.proofs.ResultTexts.{text_first}
use Rattle.mbjobs.proofs.results.write_results.Goals as goal

pub loop-number-init : goal.loop-number-init
loop-number-init g c = flows_start (text c.args.results.now)

pub loop-number-preserved : goal.loop-number-preserved
loop-number-preserved g c = flows_line c.loop-number.invariant
    (text_first c.loop-number.number c.args.results.now c.at.result.now c.at.ensures) c.in_ok-write_done.ensures

pub returns-in_err-write_done : goal.returns-in_err-write_done
returns-in_err-write_done g c =
    let exit = err_from_is_err_and c.from_residual.result c.from_residual.ensures.1 in
    rw exit.1 (front_line {c = g.O.Sink.held c.write_done.new.sink} {k = g.O.Sink.faults c.write_done.new.sink} _ c.loop-number.invariant
    (text_first c.loop-number.number c.args.results.now c.at.result.now c.at.ensures) c.in_err-write_done.ensures)

pub returns : goal.returns
returns g c =
    let none : drop c.loop-number.number c.args.results.now ≡ [] = drop_all c.loop-number.number c.args.results.now (omega arith) in
    all_flowed (rw none at c.loop-number.invariant)
