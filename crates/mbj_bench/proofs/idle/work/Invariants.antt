-- Between two jobs the submitter is a party of the front, and the cell is one of its own.
use Rattle.std.proofs.Common.{◌<◌}
use Rattle.mbj_core.specs.declared.cells.TheConstants.{SUBMITTER_CELLS}
use Rattle.mbj_work.specs.Parties.{IsPartyOf, Submits}
use Rattle.mbj_bench.proofs.idle.work.Given as goal

abbrev pub invariant-loop-job : goal.invariant-loop-job
invariant-loop-job g l = record {
  next : (goal.iterator-loop-job g).can_next l.job-iterator;
  finite : (goal.iterator-loop-job g).is_finite l.job-iterator;
  party : IsPartyOf l.front l.party;
  submits : Submits l.front l.party;
  cell : l.cell < SUBMITTER_CELLS;
}
