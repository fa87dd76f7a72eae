-- What is kept of a manager whose jobs give their ranges back.
use Rattle.std.specs.Prelude.{◌≡◌, List, map}
use Rattle.mbj_types.specs.declared.job.Job.{Job}
use Rattle.mbj_types.specs.Blank.{blank}
use Rattle.mbj_types.specs.Result.{result_of}
use Rattle.mbj_stage.specs.Handing.{without_packet}
use Rattle.mbj_manager.specs.State.{ManagerState}
use Rattle.mbj_manager.specs.Cells.{Cell, Open}

-- the results that are owed, and what is asked for them, are of the same jobs, in the same order
pub record AreOfJobs (m : ManagerState) : Type 0 where
  pub jobs : List Job
  pub results : m.owed ≡ map result_of jobs
  pub asked : m.jobs ≡ map without_packet jobs

-- and the spare cell is blank
pub record IsRanged (m : ManagerState) (spare : Cell) : Type 0 where
  pub of_jobs : AreOfJobs m
  pub blank : spare ≡ Open blank
