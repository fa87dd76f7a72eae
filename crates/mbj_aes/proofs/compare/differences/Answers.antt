use Rattle.std.proofs.Common.{ap, arith, length}
use Rattle.mbj_aes.proofs.Differences.{says_on}
use Rattle.mbj_aes.proofs.compare.differences.Goals as goal

pub loop-a-preserved : goal.loop-a-preserved
loop-a-preserved c =
    let was = c.loop-a.invariant in let steps = c.in-Some.ensures.steps in record {
      next = (tt, tt);
      finite = tt;
      lengths = omega (arith, was.lengths, ap length steps.0, ap length steps.1);
      equal = says_on c.loop-a.bits c.in-Some.a.now c.in-Some.b.now c.loop-a.a-iterator.a.rest.now c.loop-a.a-iterator.b.rest.now
          c.next.new.self.a.rest.now c.next.new.self.b.rest.now was.equal steps.0 steps.1;
    }
