-- If there is a job the earliest is finished then, after two runs at most for each job.
use Rattle.std.proofs.Common.{◌≡◌, ◌*◌, ◌++◌, ◌∙◌, List, [], length, Option, ap, ap₂, sym, subst}
use Rattle.std.specs.Prelude.{option_to_list}
use Rattle.mbj_types.specs.declared.done.Done.{Done}
use Rattle.mbj_manager.specs.Machine.Course.{flushed}
use Rattle.mbj_manager.specs.State.{ManagerState, after_get_completed, given_at}
use Rattle.mbj_manager.specs.Machine.Counts.{RisesUpTo}
use Rattle.mbj_manager.specs.Inside.Settled.{IsSettled}
use Rattle.mbj_manager.proofs.CallLaws.{given-opened, given-order}
use Rattle.mbj_manager.proofs.CallsKeep.{few-runs, flush-none, flush-settled, given-settled}
use Rattle.mbj_manager.proofs.Counted.{with_count, given-first, given-then}
use Rattle.mbj_manager.proofs.NoneOwed.{none-owed}
use Rattle.mbj_manager.proofs.manager.Manager.flush.Goals as goal

-- the state from which the earliest job is given back
at-flushed : (c : goal.After-give)
    → with_count c.self.inside.expansions c.flush_first.new.self ≡ record (c.args.self.now) { machine = flushed c.args.self.now.machine }
at-flushed c = ap (with_count c.self.inside.expansions) c.flush_first.ensures.flushed ∙ ap (λ (h : ManagerState). record h { machine = flushed h.machine }) c.self.view_is

pub returns-clause-result : goal.returns-clause-result
returns-clause-result c =
    c.give.ensures.result ∙ given-first c.flush_first.new.self c.self.inside.expansions
    ∙ ap (λ (h : ManagerState). (after_get_completed h).0) (at-flushed c)

pub returns-clause-state : goal.returns-clause-state
returns-clause-state c =
    ap (with_count c.self.inside.expansions) c.give.ensures.state ∙ given-then c.flush_first.new.self c.self.inside.expansions
    ∙ ap (λ (h : ManagerState). (after_get_completed h).1) (at-flushed c)

pub returns-clause-open_stays : goal.returns-clause-open_stays
returns-clause-open_stays c =
    let h = c.flush_first.new.self in
    ap (λ (h : ManagerState). h.opened) c.give.ensures.state ∙ given-opened h.owed h.machine.left h ∙ ap (λ (h : ManagerState). h.opened) (at-flushed c)

pub returns-clause-order : goal.returns-clause-order
returns-clause-order c =
    let h = c.flush_first.new.self in
    ap₂ (λ (o : Option Done) (h : ManagerState). option_to_list o ++ h.owed) c.give.ensures.result c.give.ensures.state ∙ given-order h
    ∙ ap (λ (h : ManagerState). h.owed) (at-flushed c)

pub returns-clause-none : goal.returns-clause-none
returns-clause-none c =
    let h = c.flush_first.new.self in
    let same : h.owed ≡ c.args.self.now.owed = ap (λ (h : ManagerState). h.owed) c.flush_first.ensures.flushed ∙ ap (λ (h : ManagerState). h.owed) c.self.view_is in
    let was : c.self.inside.engine.owed ≡ c.args.self.now.owed = ap (λ (h : ManagerState). h.owed) c.self.view_is in (
      (λ none. none-owed c.args.self.now.owed h same (λ some. c.flush_first.ensures.done (λ e. some (sym was ∙ e))) (sym c.give.ensures.result ∙ none)),
      (λ empty. c.give.ensures.result ∙ ap (λ (l : List Done). (given_at l h.machine.left h).0) (same ∙ empty)),
    )

pub invariant_of-self : goal.invariant_of-self
invariant_of-self c =
    subst IsSettled (sym c.give.ensures.state) (given-settled c.flush_first.new.self
    (subst IsSettled (sym c.flush_first.ensures.flushed) (flush-settled c.self.inside.engine c.self.invariant)))

pub returns-clause-runs : goal.returns-clause-runs
returns-clause-runs c =
    let w = c.self.inside.engine in
    let is = c.give.ensures.state ∙ ap (λ (h : ManagerState). (after_get_completed h).1) c.flush_first.ensures.flushed in
    subst (λ (h : ManagerState). RisesUpTo (2 * length h.owed) h.machine.flush_runs c.give.new.self.machine.flush_runs) c.self.view_is
    (subst (λ (h : ManagerState). RisesUpTo (2 * length w.owed) w.machine.flush_runs h.machine.flush_runs) (sym is) (few-runs w c.self.invariant))

pub returns-clause-none_stays : goal.returns-clause-none_stays
returns-clause-none_stays c none =
    let w = c.self.inside.engine in
    let h = c.flush_first.new.self in
    let owes : c.args.self.now.owed ≡ [] = (returns-clause-none c).0 none in
    let same : h.owed ≡ [] = ap (λ (h : ManagerState). h.owed) (at-flushed c) ∙ owes in
    let was : w.owed ≡ [] = ap (λ (h : ManagerState). h.owed) c.self.view_is ∙ owes in
    ap (with_count c.self.inside.expansions)
    (c.give.ensures.state ∙ ap (λ (ds : List Done). (given_at ds h.machine.left h).1) same
    ∙ c.flush_first.ensures.flushed ∙ flush-none w c.self.invariant was) ∙ c.self.view_is
