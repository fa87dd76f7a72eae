-- Steps of a manager's state that no call makes by itself.
use Rattle.std.specs.Prelude.{List, [], ◌∷◌, ◌++◌, length, Option, Some, None}
use Rattle.mbj_types.specs.declared.job.Job.{Job}
use Rattle.mbj_types.specs.declared.kind.Kind.{Kind}
use Rattle.mbj_types.specs.Result.{result_of}
use Rattle.mbj_stage.specs.CourseState.{begun}
use Rattle.mbj_stage.specs.Handing.{without_packet}
use Rattle.mbj_manager.specs.Machine.Stages.{Pending, at_once, in_lanes, pending}
use Rattle.mbj_manager.specs.Machine.Course.{stepped}
use Rattle.mbj_manager.specs.State.{ManagerState}
use Rattle.mbj_manager.specs.declared.lane.Cause.{Cause}

-- the first job that was open goes last, and stands in the agenda
abbrev pub added : List Job → ManagerState → ManagerState
added [] h = h
added (j ∷ js) h = record h {
  owed = h.owed ++ result_of j ∷ [];
  jobs = h.jobs ++ without_packet j ∷ [];
  opened = js;
  machine = record h.machine { left = h.machine.left ++ pending (begun j) ∷ []; agenda = length h.owed ∷ [] };
}

-- the agenda's first job is taken and goes on
abbrev pub with_step : Cause → ManagerState → ManagerState
with_step at h = record h { machine = stepped at h.machine }

-- the kind in whose lanes the earliest job waits
abbrev pub first_lane : List (List Pending) → Option Kind
first_lane [] = None
first_lane ([] ∷ left) = None
first_lane ((at_once ∷ ps) ∷ left) = None
first_lane ((in_lanes k rest ∷ ps) ∷ left) = Some k
