use Rattle.mbj_manager.specs.State.{new_manager}
use Rattle.mbj_manager.proofs.CallLaws.{all-in-order}
use Rattle.mbj_manager.proofs.CallsKeep.{new-settled}
use Rattle.mbj_manager.proofs.JobLaws.{last-held}
use Rattle.mbj_manager.proofs.calls.results_come_back_in_order.Goals as goal

pub returns-clause-order : goal.returns-clause-order
returns-clause-order c = λ calls. all-in-order calls new_manager

pub returns-clause-jobs : goal.returns-clause-jobs
returns-clause-jobs c = λ calls. last-held calls new_manager new-settled
