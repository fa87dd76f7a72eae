-- What a manager ends as, once a `&mut` to its open job has ended.
use Rattle.std.specs.Prelude.{ℕ, Result}
use Rattle.std.specs.Borrow.{Fml, Lends, LendsIfOk, MutBor}
use Rattle.mbj_types.specs.declared.job.Job.{Job}
use Rattle.mbj_types.specs.declared.refusal.RingFull.{RingFull}
use Rattle.mbj_types.specs.contracts.job.Job.{the_row as job_row}
use Rattle.mbj_manager.specs.State.{ManagerState, with_open, with_open_at}
use Rattle.mbj_manager.specs.contracts.engine.Engine.{the_row as engine_row}
use Rattle.mbj_manager.specs.contracts.manager.Manager.{the_row}

-- open job i of the works is what was last written through r
abbrev pub LendsOpenJob : MutBor ManagerState → ℕ → MutBor Job → Fml
LendsOpenJob w i r = Lends engine_row job_row w r (with_open_at w.now i)

-- open job i is what was last written through r
abbrev pub LendsOpen : MutBor ManagerState → ℕ → MutBor Job → Fml
LendsOpen m i r = Lends the_row job_row m r (with_open_at m.now i)

-- the first open job is what was last written through r, and where the call is refused the manager stays as it is
abbrev pub LendsNext : MutBor ManagerState → Result (MutBor Job) RingFull → Fml
LendsNext m r = LendsIfOk the_row job_row m r (with_open m.now) m.now
