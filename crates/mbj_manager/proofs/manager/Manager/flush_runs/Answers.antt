use Rattle.std.proofs.Common.{◌∙◌, ap}
use Rattle.mbj_manager.specs.State.{ManagerState}
use Rattle.mbj_manager.proofs.manager.Manager.flush_runs.Goals as goal

pub returns : goal.returns
returns c = c.flush_runs.ensures ∙ ap (λ (h : ManagerState). h.machine.flush_runs) c.self.view_is
