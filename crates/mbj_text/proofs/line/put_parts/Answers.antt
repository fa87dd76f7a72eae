-- The next part flows on.
use Rattle.std.proofs.Common.{◌+◌, [], ℕ, List, drop}
use Rattle.std.proofs.lemmas.List.{at_drop_more, at_drop_all}
use Rattle.std.proofs.lemmas.Result.{err_from_is_err_and}
use Rattle.mbj_text.specs.Line.{text_before}
use Rattle.mbj_text.specs.declared.line.Part.{Part}
use Rattle.mbj_text.proofs.Flows.{flows_last, flows_part, front_part}
use Rattle.mbj_text.proofs.line.put_parts.Goals as goal

abbrev text_of_all : List Part → List ℕ
text_of_all parts = text_before parts []

pub loop-part-preserved : goal.loop-part-preserved
loop-part-preserved g c =
    let i : ℕ = c.loop-part.part-index in
    let more : List ℕ = text_of_all (drop (i + 1) c.args.parts.now) in
    let cut = at_drop_more text_of_all c.args.parts.now i _ c.loop-part-test.true in
    let before = rw cut at c.loop-part.invariant in
    flows_part c.loop-part.piece _ more before c.in_ok-put_part.ensures

pub returns-in_err-put_part : goal.returns-in_err-put_part
returns-in_err-put_part g c =
    let i : ℕ = c.loop-part.part-index in
    let more : List ℕ = text_of_all (drop (i + 1) c.args.parts.now) in
    let cut = at_drop_more text_of_all c.args.parts.now i _ c.loop-part-test.true in
    let before = rw cut at c.loop-part.invariant in
    let exit = err_from_is_err_and c.from_residual.result c.from_residual.ensures.1 in
    rw exit.1 (front_part c.loop-part.piece _ more before c.in_err-put_part.ensures)

pub returns : goal.returns
returns g c =
    let none = at_drop_all text_of_all c.args.parts.now c.loop-part.part-index c.loop-part-test.false in
    flows_last c.loop-part.piece (rw none at c.loop-part.invariant)
