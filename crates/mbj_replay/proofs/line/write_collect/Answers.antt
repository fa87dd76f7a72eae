-- The head is written, and then the result's line.
use Rattle.std.proofs.Common.{◌≡◌, ◌++◌, ap, append_assoc, codes, decimal, List, ℕ, subst}
use Rattle.std.proofs.lemmas.Result.{err_from_is_err_and}
use Rattle.mbj_io.specs.Streams.{stream}
use Rattle.mbj_text.specs.Flow.{Writes, WritesFront}
use Rattle.mbj_text.specs.Line.{done_line}
use Rattle.mbj_text.proofs.Flows.{front_with, writes_both}
use Rattle.mbj_replay.proofs.line.write_collect.Goals as goal

-- what stands behind the submitter's number
behind : (number line : List ℕ) → (codes "collect " ++ (number ++ codes " ")) ++ line ≡ codes "collect " ++ (number ++ (codes " " ++ line))
behind number line = ap (λ (l : List ℕ). codes "collect " ++ l) (append_assoc number (codes " ") line)

pub returns-in_err-write_parts : goal.returns-in_err-write_parts
returns-in_err-write_parts g c =
    let line : List ℕ = done_line c.args.job c.args.done.now in
    let Front : List ℕ → Type 0 = λ text. WritesFront (stream g.O.Sink.held g.O.Sink.faults c.args.sink.now c.write_parts.new.sink) text in
    let exit = err_from_is_err_and c.from_residual.result c.from_residual.ensures.1 in
    rw exit.1 (subst Front (behind (decimal c.args.submitter) line) (front_with line c.in_err-write_parts.ensures))

pub returns : goal.returns
returns g c =
    let line : List ℕ = done_line c.args.job c.args.done.now in
    let Whole : List ℕ → Type 0 =
    λ text. Writes c.write_done.result (stream g.O.Sink.held g.O.Sink.faults c.args.sink.now c.write_done.new.sink) text in
    subst Whole (behind (decimal c.args.submitter) line)
    (writes_both _ _ _ _ _ _ line c.write_done.result c.in_ok-write_parts.ensures c.write_done.ensures)
