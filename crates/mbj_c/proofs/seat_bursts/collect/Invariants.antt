use Rattle.mbj_c.proofs.SeatBursting.{AreCollected}
use Rattle.mbj_c.proofs.seat_bursts.collect.Given as goal

abbrev pub invariant-collecting : goal.invariant-collecting
invariant-collecting l = AreCollected l.turn l.fn.handle.seat l.fn.outs l.returned l.outs l.handle.seat
