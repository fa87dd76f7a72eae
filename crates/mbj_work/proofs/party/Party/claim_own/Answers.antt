use Rattle.mbj_front.specs.Seats.{view_of}
use Rattle.mbj_work.proofs.Keeping.{keeps_on}
use Rattle.mbj_work.proofs.party.Party.claim_own.Goals as goal

pub loop-nth-preserved : goal.loop-nth-preserved
loop-nth-preserved g c = let ready = c.claim_ready.ensures in record {
  front = ready.front;
  due = keeps_on (view_of c.args.self.now.seat) (view_of c.loop-nth.self.seat) (view_of c.claim_ready.new.self.seat) c.loop-nth.invariant.due ready.due;
}
