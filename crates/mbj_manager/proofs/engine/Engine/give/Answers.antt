-- If the earliest job isn't finished nothing changes.
use Rattle.std.proofs.Common.{◌∙◌, Option, ap, sym}
use Rattle.mbj_types.specs.declared.done.Done.{Done}
use Rattle.mbj_manager.specs.State.{ManagerState, after_get_completed}
use Rattle.mbj_manager.proofs.Popping.{not-given}
use Rattle.mbj_manager.proofs.engine.Engine.give.Goals as goal

pub returns-then-has_finished-clause-result : goal.returns-then-has_finished-clause-result
returns-then-has_finished-clause-result c = c.pop.ensures.result ∙ ap (λ (h : ManagerState). (after_get_completed h).0) c.if-has_finished.ensures.same

pub returns-then-has_finished-clause-state : goal.returns-then-has_finished-clause-state
returns-then-has_finished-clause-state c = c.pop.ensures.state ∙ ap (λ (h : ManagerState). (after_get_completed h).1) c.if-has_finished.ensures.same

pub returns-else-has_finished-clause-result : goal.returns-else-has_finished-clause-result
returns-else-has_finished-clause-result c =
    sym (ap (λ (a : Option Done × ManagerState). a.0)
    (not-given c.args.self.now (λ e. let done = c.if-has_finished.ensures.done.1 e in cc)))

pub returns-else-has_finished-clause-state : goal.returns-else-has_finished-clause-state
returns-else-has_finished-clause-state c =
    c.if-has_finished.ensures.same
    ∙ sym (ap (λ (a : Option Done × ManagerState). a.1)
    (not-given c.args.self.now (λ e. let done = c.if-has_finished.ensures.done.1 e in cc)))
