use Rattle.mbj_work.proofs.party.Party.collect.Goals as goal

pub returns-clause-result : goal.returns-clause-result
returns-clause-result c = c.collect_at.ensures.result

pub returns-clause-part : goal.returns-clause-part
returns-clause-part c = c.collect_at.ensures.part
