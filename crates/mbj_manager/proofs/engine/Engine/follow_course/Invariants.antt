-- The steps still ahead come to where the whole course comes, and nothing else changes.
use Rattle.std.proofs.Common.{◌≡◌, ◌≤◌}
use Rattle.mbj_manager.specs.Machine.Course.{course, stages_left}
use Rattle.mbj_manager.proofs.Reaching.{Reaches}
use Rattle.mbj_manager.proofs.engine.Engine.follow_course.Given as goal
use Rattle.mbj_manager.specs.Inside.Steps.{steps_ahead}

abbrev pub invariant-following : goal.invariant-following
invariant-following l = record {
  reaches : Reaches l.cause l.self.machine (course l.cause l.initial.self.machine);
  owed_is : l.self.owed ≡ l.initial.self.owed;
  jobs_are : l.self.jobs ≡ l.initial.self.jobs;
  opened_is : l.self.opened ≡ l.initial.self.opened;
  count_is : l.self.expansions ≡ l.initial.self.expansions;
  stages : stages_left l.self.machine.left ≤ stages_left l.initial.self.machine.left;
}

abbrev pub decreases-following : goal.decreases-following
decreases-following l = steps_ahead l.self.machine
