-- The jobs are those before the mark, and the commands those behind it.
use Rattle.std.proofs.Common.{rules}
use Rattle.mbj_text.proofs.replay.entries_and_commands.Goals as goal

pub returns : goal.returns
returns c = search rules

pub returns-in_err-commands : goal.returns-in_err-commands
returns-in_err-commands c = search rules
