use Rattle.std.proofs.Common.{◌∙◌}
use Rattle.mbj_replay.proofs.ReadyCells.{earliest-claimed, unready-passed}
use Rattle.mbj_replay.proofs.claiming.claim_earliest.Goals as goal

pub returns-then-try_claim-clause-claimed : goal.returns-then-try_claim-clause-claimed
returns-then-try_claim-clause-claimed c =
    earliest-claimed c.args.core.now c.loop-count.core c.try_claim.new.core c.args.p c.args.s c.cell_behind-cell.result c.loop-count.count c.out-count-end.result
    c.loop-count.invariant.core c.if-try_claim.ensures.claimed c.loop-count-test.true c.cell_behind-cell.ensures.cell c.loop-count.invariant.left

pub loop-count-preserved : goal.loop-count-preserved
loop-count-preserved c = record {
  core = c.if-try_claim.ensures.same ∙ c.loop-count.invariant.core;
  least = c.loop-count.invariant.least;
  left = unready-passed c.args.core.now c.loop-count.core c.try_claim.new.core c.args.s c.cell_behind-cell.result c.loop-count.count c.out-count-end.result
      c.loop-count.invariant.core c.if-try_claim.ensures.same c.loop-count-test.true c.cell_behind-cell.ensures.cell c.if-try_claim.ensures.unready c.loop-count.invariant.left;
}
