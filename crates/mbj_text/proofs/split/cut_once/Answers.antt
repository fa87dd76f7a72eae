-- The mark stands first if it was found.
use Rattle.std.proofs.Common.{sym}
use Rattle.mbj_text.proofs.Cutting.{cut_at}
use Rattle.mbj_text.proofs.split.cut_once.Goals as goal

pub returns-in-Some : goal.returns-in-Some
returns-in-Some c = cut_at c.args.mark c.args.text.now c.in-Some.end (sym c.in-Some.ensures.found)
