-- The law, part by part.
use Rattle.mbj_direct.proofs.Cuttings.{any_cutting_of_data}
use Rattle.mbj_direct.proofs.laws.any_cutting_gives_one_tag.Goals as goal

pub returns : goal.returns
returns c = any_cutting_of_data
