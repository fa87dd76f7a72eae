use Rattle.mbj_work.proofs.party.Party.post.Goals as goal

pub returns-clause-part : goal.returns-clause-part
returns-clause-part c = c.post_at.ensures.part

pub returns-clause-room : goal.returns-clause-room
returns-clause-room c = c.post_at.ensures.room
