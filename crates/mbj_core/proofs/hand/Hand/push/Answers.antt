use Rattle.mbj_core.proofs.hand.Hand.push.Goals as goal

pub returns : goal.returns
returns c = rw (← c.self.view_is) c.push_reserved.ensures.items
