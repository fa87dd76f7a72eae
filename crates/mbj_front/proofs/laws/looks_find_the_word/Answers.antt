use Rattle.mbj_front.proofs.Looked.{find_the_word}
use Rattle.mbj_front.proofs.laws.looks_find_the_word.Goals as goal

pub returns : goal.returns
returns g c = find_the_word g.R.Results.owed
