-- One more good line, and a line with a fault.
use Rattle.mbj_text.proofs.CommandLaws.{command_read}
use Rattle.mbj_text.proofs.ScriptLaws.{script_one_more, script_stops}
use Rattle.mbj_text.proofs.script.read_script.Goals as goal

pub loop-number-preserved : goal.loop-number-preserved
loop-number-preserved c =
    let good = command_read _ _ c.in-Some.line.now c.in-Ok.command c.in-Ok.ensures in
    rw c.in_ok-push-in-Ok.ensures.items (script_one_more _ _ _ _ _ _ c.in-Some.number _ c.loop-number.invariant c.in-Some.ensures.steps c.in-Ok.command good)

pub returns-in-Err : goal.returns-in-Err
returns-in-Err c =
    rw c.at.ensures (script_stops _ _ _ _ _ _ c.in-Some.number c.in-Some.line.now c.loop-number.invariant c.in-Some.ensures.steps c.in-Err.fault c.in-Err.ensures)
