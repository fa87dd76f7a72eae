-- What came back was owed before.
use Rattle.std.proofs.Common.{length, ap, arith, length-append}
use Rattle.std.specs.Prelude.{replicate}
use Rattle.mbj_manager.specs.Calls as calls
use Rattle.mbj_burst.proofs.burster.Burster.flush.Goals as goal

pub returns-clause-left : goal.returns-clause-left
returns-clause-left c =
    let old = c.args.self.now in
    let new = c.flush_burst-given.new.self in
    let out = c.flush_burst-given.new.out.items in
    let given = calls.given_back (replicate c.args.count calls.flush) old.manager in
    omega (
      arith,
      ap length c.flush_burst-given.ensures.order,
      length-append out new.owed,
      length-append old.results.items old.manager.owed,
      ap length c.flush_burst-given.ensures.results,
      length-append old.results.items given,
      c.flush_burst-given.ensures.count,
    )
