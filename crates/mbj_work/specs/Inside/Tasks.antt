-- What a thread begins with that does the jobs of one submitter.
use Rattle.std.specs.Prelude.{◌≡◌, ◌≤◌, [], length, vec_capacity}
use Rattle.std.specs.declared.vec.Vec.{Vec}
use Rattle.std.specs.declared.alloc.Global.{Global}
use Rattle.mbj_types.specs.declared.job.Job.{Job}
use Rattle.mbj_types.specs.declared.done.Done.{Done}
use Rattle.mbj_manager.specs.State.{ManagerState}

-- the manager owes nothing, there is no result yet, and there is room for that of each job
pub record IsReady (manager : ManagerState) (jobs : Vec Job Global) (results : Vec Done Global) : Type 0 where
  pub idle : manager.owed ≡ []
  pub none : results.items ≡ []
  pub room : length jobs.items ≤ vec_capacity results
