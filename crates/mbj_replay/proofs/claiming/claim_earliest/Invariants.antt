-- The cells before this one aren't ready, and nothing has changed.
use Rattle.std.proofs.Common.{◌≡◌, ◌+◌, ◌-◌, ◌≤◌, map}
use Rattle.std.specs.List.{range_with_len}
use Rattle.mbj_core.specs.Cells.{cell_of}
use Rattle.mbj_core.specs.CoreStates.{jobs_out}
use Rattle.mbj_core.specs.declared.cells.TheConstants.{SUBMITTER_CELLS}
use Rattle.mbj_replay.specs.Replay.{cells_out, first_ready}
use Rattle.mbj_replay.proofs.claiming.claim_earliest.Given as goal

abbrev pub invariant-loop-count : goal.invariant-loop-count
invariant-loop-count l = record {
  core : l.core ≡ l.initial.core;
  least : l.count-end ≤ SUBMITTER_CELLS;
  left : first_ready l.core (map (cell_of l.s) (range_with_len ((jobs_out l.core l.s).first + l.count) (l.count-end - l.count)))
      ≡ first_ready l.initial.core (cells_out l.initial.core l.s);
}
