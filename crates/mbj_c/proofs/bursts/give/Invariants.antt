use Rattle.mbj_c.proofs.Bursting.{AreGiven}
use Rattle.mbj_c.proofs.bursts.give.Given as goal

abbrev pub invariant-calling : goal.invariant-calling
invariant-calling l = AreGiven l.turn l.call l.fn.outs l.outs l.fn.handle.manager l.returned l.handle.manager
