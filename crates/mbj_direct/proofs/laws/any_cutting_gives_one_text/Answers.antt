-- The law, part by part.
use Rattle.mbj_direct.proofs.States.{any_cutting}
use Rattle.mbj_direct.proofs.laws.any_cutting_gives_one_text.Goals as goal

pub returns : goal.returns
returns c = any_cutting
