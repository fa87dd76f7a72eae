-- One more good line, and a line with a fault.
use Rattle.std.proofs.Common.{◌∙◌, sym}
use Rattle.mbj_text.proofs.FileLaws.{one_more, stops}
use Rattle.mbj_text.proofs.entries.read_entries.Goals as goal

pub loop-number-preserved : goal.loop-number-preserved
loop-number-preserved c =
    let added = c.in-Ok.ensures in
    record {
      so_far = rw added.2 (one_more _ _ _ _ c.in-Some.number _ c.loop-number.invariant.so_far c.in-Some.ensures.line.0 added.0 added.1);
      behind = sym c.in-Some.ensures.line.1 ∙ c.loop-number.invariant.behind;
    }

pub returns-in-Err-clause-entries : goal.returns-in-Err-clause-entries
returns-in-Err-clause-entries c =
    rw c.at.ensures (stops _ _ _ _ c.in-Some.number c.in-Some.line.now c.loop-number.invariant.so_far c.in-Some.ensures.line.0 c.in-Err.fault c.in-Err.ensures)
