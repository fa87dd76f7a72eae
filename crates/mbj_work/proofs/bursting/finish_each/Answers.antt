-- The last of the list that was turned round is the first that is left.
use Rattle.std.proofs.Common.{◌≡◌, ◌++◌, ℕ, List, [], reverse, refl, ap, sym, subst, ◌∙◌}
use Rattle.std.proofs.lemmas.List.{nil_from_length, reverse-reverse}
use Rattle.mbj_types.specs.declared.done.Done.{Done}
use Rattle.mbj_core.specs.declared.party.View.{View}
use Rattle.mbj_front.specs.Seats.{view_of, IsFirst}
use Rattle.mbj_work.specs.Claims.{FinishesEach, FinishesFirst}
use Rattle.mbj_work.specs.Inside.Holding.{results_in}
use Rattle.mbj_work.proofs.Hands.{first_of, left_of}
use Rattle.mbj_work.proofs.Settling.{last-first}
use Rattle.mbj_work.proofs.bursting.finish_each.Goals as goal

pub finishing-init : goal.finishing-init
finishing-init c =
    let left = c.requires.first in
    record {
      front = c.requires.front;
      rest = c.requires.rest;
      first = (left.0, ap (λ (ds : List Done). ds ++ left.0) (ap reverse c.reverse.ensures.items ∙ reverse-reverse c.args.settled.now.items) ∙ left.1);
      cells = c.requires.cells;
      leads = λ w f. f;
      room = refl;
    }

pub finish_first-requires-clause-first : goal.finish_first-requires-clause-first
finish_first-requires-clause-first c =
    let i = c.finishing.invariant in
    let turned = last-first c.finishing.settled.items c.pop.new.self.items c.in-Some.done c.in-Some.ensures.items in
    subst (λ (d : Done). (cell : ℕ) × IsFirst cell d (view_of c.finishing.seat).hand) (sym c.new.ensures)
    (first_of (view_of c.finishing.seat).hand c.in-Some.done (reverse c.pop.new.self.items ++ i.first.0)
    (sym (ap (λ (ds : List Done). ds ++ i.first.0) turned) ∙ i.first.1))

pub finishing-preserved : goal.finishing-preserved
finishing-preserved c =
    let i = c.finishing.invariant in
    let v = view_of c.finishing.seat in
    let ds = c.pop.new.self.items in
    let d = c.in-Some.done in
    let turned = last-first c.finishing.settled.items ds d c.in-Some.ensures.items in
    let was = sym (ap (λ (es : List Done). es ++ i.first.0) turned) ∙ i.first.1 in
    let step = subst (λ (d : Done). FinishesFirst c.args.front.now d v (view_of c.finish_first.new.seat)) c.new.ensures c.finish_first.ensures.part in
    record {
      front = c.finish_first.ensures.front;
      rest = ap (λ (u : View Done). u.phase) step.part ∙ i.rest;
      first = (i.first.0, left_of v.hand step.more step.cell d (reverse ds ++ i.first.0) was step.first ∙ sym (ap (λ (u : View Done). results_in u.hand) step.part));
      cells = c.finish_first.ensures.cells;
      leads = λ w f. i.leads w (subst (λ (es : List Done). FinishesEach c.args.front.now es v w) (sym turned) (view_of c.finish_first.new.seat, step, f));
      room = c.pop.ensures.capacity ∙ i.room;
    }

pub returns-in-None-clause-part : goal.returns-in-None-clause-part
returns-in-None-clause-part c =
    let i = c.finishing.invariant in
    let v = view_of c.finishing.seat in
    let none : c.finishing.settled.items ≡ [] = nil_from_length c.finishing.settled.items (sym c.finishing.settled.ok.0 ∙ c.in-None.ensures.cases.0) in
    subst (λ (ds : List Done). FinishesEach c.args.front.now ds (view_of c.args.seat.now) v) (ap reverse c.reverse.ensures.items ∙ reverse-reverse c.args.settled.now.items)
    (i.leads v (subst (λ (es : List Done). FinishesEach c.args.front.now es v v) (sym (ap reverse none)) refl))

pub returns-in-None-clause-none : goal.returns-in-None-clause-none
returns-in-None-clause-none c = nil_from_length c.pop.new.self.items (sym c.pop.new.self.ok.0 ∙ c.in-None.ensures.cases.1)
