-- Each call has fewer submitters left than the one that made it.
use Rattle.std.proofs.Common.{◌+◌, ◌*◌, length}
use Rattle.mbj_work.proofs.crew.+calls.Given as goal

abbrev pub decreases-join_mut+arg3 : goal.decreases-join_mut+arg3
decreases-join_mut+arg3 g l = 2 * length l.rest.now + 1

abbrev pub decreases-run_each : goal.decreases-run_each
decreases-run_each g l = 2 * length l.submitters.now
