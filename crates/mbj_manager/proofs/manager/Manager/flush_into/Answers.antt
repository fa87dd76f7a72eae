-- The earliest job is finished then, and its cell is given back.
use Rattle.std.proofs.Common.{◌≡◌, ◌++◌, ◌∙◌, [], Bool, true, false, Option, None, ap, ap₂, sym, subst}
use Rattle.std.specs.Bool.{OnFalse}
use Rattle.std.specs.Prelude.{option_to_list}
use Rattle.mbj_types.specs.declared.done.Done.{Done}
use Rattle.mbj_manager.specs.Cells.{Cell, given_by}
use Rattle.mbj_manager.specs.Machine.Course.{flushed}
use Rattle.mbj_manager.specs.State.{ManagerState, after_get_completed}
use Rattle.mbj_manager.specs.Inside.Settled.{IsSettled}
use Rattle.mbj_manager.proofs.CallLaws.{given-order}
use Rattle.mbj_manager.proofs.CallsKeep.{flush-settled, given-settled}
use Rattle.mbj_manager.proofs.Counted.{with_count, given-first, given-then}
use Rattle.mbj_manager.proofs.NoneOwed.{none-owed}
use Rattle.mbj_manager.proofs.manager.Manager.flush_into.Goals as goal

-- the state from which the earliest job is given back
at-flushed : (c : goal.After-give_into)
    → with_count c.self.inside.expansions c.flush_first.new.self ≡ record (c.args.self.now) { machine = flushed c.args.self.now.machine }
at-flushed c = ap (with_count c.self.inside.expansions) c.flush_first.ensures.flushed ∙ ap (λ (h : ManagerState). record h { machine = flushed h.machine }) c.self.view_is

pub returns-clause-result : goal.returns-clause-result
returns-clause-result c =
    c.give_into.ensures.result ∙ given-first c.flush_first.new.self c.self.inside.expansions
    ∙ ap (λ (h : ManagerState). (after_get_completed h).0) (at-flushed c)

pub returns-clause-state : goal.returns-clause-state
returns-clause-state c =
    ap (with_count c.self.inside.expansions) c.give_into.ensures.state ∙ given-then c.flush_first.new.self c.self.inside.expansions
    ∙ ap (λ (h : ManagerState). (after_get_completed h).1) (at-flushed c)

pub returns-clause-order : goal.returns-clause-order
returns-clause-order c =
    let h = c.flush_first.new.self in
    ap₂ (λ (o : Option Done) (h : ManagerState). option_to_list o ++ h.owed) c.give_into.ensures.result c.give_into.ensures.state ∙ given-order h
    ∙ ap (λ (h : ManagerState). h.owed) (at-flushed c)

pub invariant_of-self : goal.invariant_of-self
invariant_of-self c =
    subst IsSettled (sym c.give_into.ensures.state) (given-settled c.flush_first.new.self
    (subst IsSettled (sym c.flush_first.ensures.flushed) (flush-settled c.self.inside.engine c.self.invariant)))

none-given : (b : Bool) (v : Cell) (o : Option Done) (P : Type 0) → given_by b v ≡ o → (o ≡ None → P) → OnFalse b P
none-given true v o P e f = tt
none-given false v o P e f = f (sym e)

pub returns-clause-none : goal.returns-clause-none
returns-clause-none c =
    let h = c.flush_first.new.self in
    let same : h.owed ≡ c.args.self.now.owed = ap (λ (h : ManagerState). h.owed) c.flush_first.ensures.flushed ∙ ap (λ (h : ManagerState). h.owed) c.self.view_is in
    let was : c.self.inside.engine.owed ≡ c.args.self.now.owed = ap (λ (h : ManagerState). h.owed) c.self.view_is in
    none-given c.give_into.result c.give_into.new.given (after_get_completed h).0 (c.args.self.now.owed ≡ []) c.give_into.ensures.result
    (λ none. none-owed c.args.self.now.owed h same (λ some. c.flush_first.ensures.done (λ e. some (sym was ∙ e))) none)
