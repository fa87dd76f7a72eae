use Rattle.mbj_core.proofs.laws.other_parties_have_nothing.Goals as goal

pub returns : goal.returns
returns c submitters workers p f far has law = has (law.nobody p far)
