-- The script lines before those that are left spell the commands.
use Rattle.mbj_text.proofs.ScriptLaws.{ScriptSoFar}
use Rattle.mbj_text.proofs.script.read_script.Given as goal

abbrev pub invariant-loop-number : goal.invariant-loop-number
invariant-loop-number l = ScriptSoFar l.submitters l.workers l.fn.lines l.number-iterator l.commands.items
