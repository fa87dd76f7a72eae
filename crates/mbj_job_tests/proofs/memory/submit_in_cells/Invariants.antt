-- The cell is blank between two jobs.
use Rattle.std.proofs.Common.{◌≡◌}
use Rattle.mbj_types.specs.Blank.{blank}
use Rattle.mbj_manager.specs.Cells.{Open}
use Rattle.mbj_job_tests.proofs.memory.submit_in_cells.Given as goal

abbrev pub invariant-jobs : goal.invariant-jobs
invariant-jobs g l = l.cell ≡ Open blank
