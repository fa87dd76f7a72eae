-- What is given back is what the works give, which leaves a manager between two calls.
use Rattle.std.proofs.Common.{◌≡◌, ◌↔◌, ◌++◌, ◌∙◌, Option, None, ap, ap₂, sym, subst}
use Rattle.std.specs.Prelude.{IsSome, option_to_list}
use Rattle.mbj_types.specs.declared.done.Done.{Done}
use Rattle.mbj_manager.specs.State.{ManagerState, IsEarliestFinished, after_get_completed}
use Rattle.mbj_manager.specs.Inside.Settled.{IsSettled}
use Rattle.mbj_manager.proofs.CallLaws.{given-order, none-where}
use Rattle.mbj_manager.proofs.CallsKeep.{earliest-given, given-settled}
use Rattle.mbj_manager.proofs.Counted.{with_count, given-first, given-then}
use Rattle.mbj_manager.proofs.manager.Manager.get_completed.Goals as goal

pub invariant_of-self : goal.invariant_of-self
invariant_of-self c = subst IsSettled (sym c.give.ensures.state) (given-settled c.self.inside.engine c.self.invariant)

pub returns-clause-result : goal.returns-clause-result
returns-clause-result c =
    c.give.ensures.result ∙ given-first c.self.inside.engine c.self.inside.expansions ∙ ap (λ (h : ManagerState). (after_get_completed h).0) c.self.view_is

pub returns-clause-state : goal.returns-clause-state
returns-clause-state c =
    ap (with_count c.self.inside.expansions) c.give.ensures.state ∙ given-then c.self.inside.engine c.self.inside.expansions
    ∙ ap (λ (h : ManagerState). (after_get_completed h).1) c.self.view_is

pub returns-clause-none : goal.returns-clause-none
returns-clause-none c =
    let h = c.args.self.now in
    subst (λ (o : Option Done). (o ≡ None) ↔ ¬ IsEarliestFinished h) (sym (returns-clause-result c)) (none-where h)

pub returns-clause-some : goal.returns-clause-some
returns-clause-some c is =
    let h = c.args.self.now in
    subst IsSome (sym (returns-clause-result c)) (earliest-given h.owed h.machine.left h is.some is.done)

pub returns-clause-order : goal.returns-clause-order
returns-clause-order c =
    ap₂ (λ (o : Option Done) (h : ManagerState). option_to_list o ++ h.owed) (returns-clause-result c) (returns-clause-state c) ∙ given-order c.args.self.now
