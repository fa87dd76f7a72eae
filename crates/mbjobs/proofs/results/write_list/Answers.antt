-- Each result's line is written behind those before it.
use Rattle.std.proofs.Common.{◌<◌, length, arith}
use Rattle.std.proofs.lemmas.Result.{err_from_is_err_and}
use Rattle.mbj_text.proofs.Flows.{flows_line, front_line}
use Rattle.mbjobs.proofs.ResultTexts.{text_at}
use Rattle.mbjobs.proofs.results.write_list.Goals as goal

pub loop-number-preserved : goal.loop-number-preserved
loop-number-preserved g c =
    let n = c.loop-number.number in
    let results = c.args.results.now in
    let below : n < length results = omega (arith, c.loop-number-test.true, c.requires) in
    flows_line c.loop-number.invariant (text_at n results c.index-results-number.result below c.index-results-number.is) c.in_ok-write_done.ensures

pub returns-in_err-write_done : goal.returns-in_err-write_done
returns-in_err-write_done g c =
    let n = c.loop-number.number in
    let results = c.args.results.now in
    let below : n < length results = omega (arith, c.loop-number-test.true, c.requires) in
    let exit = err_from_is_err_and c.from_residual.result c.from_residual.ensures.1 in
    rw exit.1 (front_line {c = g.O.Sink.held c.write_done.new.sink} {k = g.O.Sink.faults c.write_done.new.sink} _ c.loop-number.invariant
    (text_at n results c.index-results-number.result below c.index-results-number.is) c.in_err-write_done.ensures)
