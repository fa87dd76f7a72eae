use Rattle.mbj_work.proofs.party.Party.settle.Goals as goal

pub returns-clause-part : goal.returns-clause-part
returns-clause-part c = c.settle_at.ensures.part
