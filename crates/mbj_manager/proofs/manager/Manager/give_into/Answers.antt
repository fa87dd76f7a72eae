-- What is given back is what the works give, which leaves a manager between two calls.
use Rattle.std.proofs.Common.{◌++◌, ◌∙◌, Option, ap, ap₂, sym, subst}
use Rattle.std.specs.Prelude.{option_to_list}
use Rattle.mbj_types.specs.declared.done.Done.{Done}
use Rattle.mbj_manager.specs.State.{ManagerState, after_get_completed}
use Rattle.mbj_manager.specs.Inside.Settled.{IsSettled}
use Rattle.mbj_manager.proofs.CallLaws.{given-order}
use Rattle.mbj_manager.proofs.CallsKeep.{given-settled}
use Rattle.mbj_manager.proofs.Counted.{with_count, given-first, given-then}
use Rattle.mbj_manager.proofs.manager.Manager.give_into.Goals as goal

pub invariant_of-self : goal.invariant_of-self
invariant_of-self c = subst IsSettled (sym c.give_into.ensures.state) (given-settled c.self.inside.engine c.self.invariant)

pub returns-clause-result : goal.returns-clause-result
returns-clause-result c =
    c.give_into.ensures.result ∙ given-first c.self.inside.engine c.self.inside.expansions ∙ ap (λ (h : ManagerState). (after_get_completed h).0) c.self.view_is

pub returns-clause-state : goal.returns-clause-state
returns-clause-state c =
    ap (with_count c.self.inside.expansions) c.give_into.ensures.state ∙ given-then c.self.inside.engine c.self.inside.expansions
    ∙ ap (λ (h : ManagerState). (after_get_completed h).1) c.self.view_is

pub returns-clause-order : goal.returns-clause-order
returns-clause-order c =
    ap₂ (λ (o : Option Done) (h : ManagerState). option_to_list o ++ h.owed) (returns-clause-result c) (returns-clause-state c) ∙ given-order c.args.self.now
