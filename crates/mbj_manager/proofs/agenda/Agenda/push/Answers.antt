use Rattle.mbj_manager.proofs.agenda.Agenda.push.Goals as goal

pub returns-clause-places : goal.returns-clause-places
returns-clause-places c = c.push_reserved.ensures.items
