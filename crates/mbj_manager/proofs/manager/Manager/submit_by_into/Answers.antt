-- What is given back is what is completed after the job went in.
use Rattle.std.proofs.Common.{◌++◌, ◌∙◌, Option, ap, ap₂}
use Rattle.std.specs.Prelude.{is_some, option_to_list}
use Rattle.mbj_types.specs.declared.done.Done.{Done}
use Rattle.mbj_manager.specs.State.{ManagerState, after_get_completed}
use Rattle.mbj_manager.proofs.CallLaws.{submitted-order}
use Rattle.mbj_manager.proofs.manager.Manager.submit_by_into.Goals as goal

pub returns-clause-result : goal.returns-clause-result
returns-clause-result c = c.give_into.ensures.result ∙ ap (λ (h : ManagerState). (after_get_completed h).0) c.enter.ensures

pub returns-clause-state : goal.returns-clause-state
returns-clause-state c = c.give_into.ensures.state ∙ ap (λ (h : ManagerState). (after_get_completed h).1) c.enter.ensures

pub returns-clause-order : goal.returns-clause-order
returns-clause-order c =
    ap₂ (λ (o : Option Done) (h : ManagerState). option_to_list o ++ h.owed) (returns-clause-result c) (returns-clause-state c)
    ∙ submitted-order (is_some c.args.found) c.args.self.now
