-- How a job is given to a manager whose ring may be full.
use Rattle.std.specs.Prelude.{List, ◌++◌, option_to_list}
use Rattle.mbj_types.specs.declared.job.Job.{Job}
use Rattle.mbj_types.specs.declared.done.Done.{Done}
use Rattle.mbj_manager.specs.State.{ManagerState, after_making_room, after_submit, with_open}
use Rattle.mbj_work.specs.declared.feeding.Submitted.{Submitted}

-- room is made, the job is written into the next cell, and submitted
abbrev pub fed : Job → ManagerState → Submitted × ManagerState
fed j h = (
  record { flushed = (after_making_room h).0; given = (after_submit (with_open (after_making_room h).1 j)).0 },
  (after_submit (with_open (after_making_room h).1 j)).1,
)

-- what is given back, in order
abbrev pub results_given : Submitted → List Done
results_given s = option_to_list s.flushed ++ option_to_list s.given
