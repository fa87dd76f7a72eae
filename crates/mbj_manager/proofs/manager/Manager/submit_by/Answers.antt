-- What is given back is what is completed after the job went in.
use Rattle.std.proofs.Common.{◌≡◌, ◌↔◌, ◌++◌, ◌∙◌, Option, None, ap, ap₂, subst}
use Rattle.std.specs.Prelude.{IsSome, is_some, option_to_list}
use Rattle.mbj_types.specs.declared.done.Done.{Done}
use Rattle.mbj_manager.specs.State.{ManagerState, IsEarliestFinished, after_get_completed, counted, entered}
use Rattle.mbj_manager.proofs.CallLaws.{submitted-opened, submitted-order}
use Rattle.mbj_manager.proofs.Counted.{earliest-count, earliest-back, given-expansions}
use Rattle.mbj_manager.proofs.manager.Manager.submit_by.Goals as goal

pub returns-clause-result : goal.returns-clause-result
returns-clause-result c = c.get_completed.ensures.result ∙ ap (λ (h : ManagerState). (after_get_completed h).0) c.enter.ensures

pub returns-clause-state : goal.returns-clause-state
returns-clause-state c = c.get_completed.ensures.state ∙ ap (λ (h : ManagerState). (after_get_completed h).1) c.enter.ensures

pub returns-clause-none : goal.returns-clause-none
returns-clause-none c =
    let h = c.args.self.now in
    let then : ManagerState = counted (is_some c.args.found) h (entered h) in
    let told : (c.get_completed.result ≡ None) ↔ ¬ IsEarliestFinished then =
    subst (λ (h : ManagerState). (c.get_completed.result ≡ None) ↔ ¬ IsEarliestFinished h) c.enter.ensures c.get_completed.ensures.none in (
      (λ none is. told.0 none (earliest-count (entered h) then.expansions is)),
      (λ not. told.1 (λ is. not (earliest-back (entered h) then.expansions is))),
    )

pub returns-clause-some : goal.returns-clause-some
returns-clause-some c is =
    let h = c.args.self.now in
    let then : ManagerState = counted (is_some c.args.found) h (entered h) in
    let told : IsEarliestFinished then → IsSome c.get_completed.result =
    subst (λ (h : ManagerState). IsEarliestFinished h → IsSome c.get_completed.result) c.enter.ensures c.get_completed.ensures.some in
    told (earliest-count (entered h) then.expansions is)

pub returns-clause-order : goal.returns-clause-order
returns-clause-order c =
    ap₂ (λ (o : Option Done) (h : ManagerState). option_to_list o ++ h.owed) (returns-clause-result c) (returns-clause-state c)
    ∙ submitted-order (is_some c.args.found) c.args.self.now

pub returns-clause-others : goal.returns-clause-others
returns-clause-others c =
    ap (λ (h : ManagerState). h.opened) (returns-clause-state c) ∙ submitted-opened (is_some c.args.found) c.args.self.now

pub returns-clause-expansions : goal.returns-clause-expansions
returns-clause-expansions c =
    let h = c.args.self.now in
    ap (λ (h : ManagerState). h.expansions) (returns-clause-state c) ∙ given-expansions (counted (is_some c.args.found) h (entered h))
