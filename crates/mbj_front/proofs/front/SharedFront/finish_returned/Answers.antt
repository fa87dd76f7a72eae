use Rattle.std.proofs.Common.{sym, subst, ap, ◌∙◌, ◌*◌, ◌+◌, ◌∷◌, ℕ, arith}
use Rattle.std.specs.Prelude.{slice_get}
use Rattle.mbj_core.specs.declared.party.View.{View}
use Rattle.mbj_front.specs.declared.slot.Slot.TheVariants.{Blank}
use Rattle.mbj_front.specs.Views.{after_finish}
use Rattle.mbj_front.specs.Moves.{finishing, Led}
use Rattle.mbj_front.specs.Inside.Keeps.{of_hand}
use Rattle.mbj_front.proofs.Allowed.{finishes_first}
use Rattle.mbj_front.proofs.Kept.{at_rest, kept_finished}
use Rattle.mbj_front.proofs.Slots.{same_slot, stands_first}
use Rattle.mbj_front.proofs.Told.{told_finished}
use Rattle.mbj_front.proofs.front.SharedFront.finish_returned.Goals as goal

pub compare_exchange-requires : goal.compare_exchange-requires
compare_exchange-requires g c = let t = c.args.self.now.table.shared in let k = c.args.seat.now.keeps in let told = c.exchange-old.ensures in
    let near = k.near 0 c.args.cell c.args.returned (ap (λ l. slice_get l 0) c.requires.first.1) in (
      told.0 ∙ c.requires.front.0,
      omega (arith, near, ap (λ i. i.words) c.requires.front.0),
      finishes_first g.R.Results.owed t.key.submitters t.key.workers _ _ _ _ _ c.args.returned c.requires.first.0 _ (ap (λ m. m.0.root) told.3 ∙ k.cut) (ap (λ m. m.0.view.hand) told.3 ∙ c.requires.first.1) (ap (λ m. m.1) told.3)
          (c.hand_word-hand.ensures ∙ ap (λ (n : ℕ). 4 + 3 * n) (k.party_is ∙ ap (λ m. m.0.view.number) (sym told.3))),
    )

pub invariant_of-seat : goal.invariant_of-seat
invariant_of-seat g c = let seat = c.args.seat.now in let first = c.requires.first in
    let did = told_finished g.R.Results.owed c.args.cell seat.inner.me _ _ c.args.returned first.0 c.exchange-old.ensures.3 first.1 c.compare_exchange.ensures.2 in
    record { keeps = kept_finished _ _ _ _ _ c.args.cell seat.inner.me _ c.args.returned first.0 seat.keeps (ap (λ i. i.words) (c.compare_exchange.ensures.0 ∙ c.exchange-old.ensures.0)) did.0 c.requires.rest first.1 }

pub returns-clause-front : goal.returns-clause-front
returns-clause-front g c = let first = c.requires.first in let front = c.requires.front in
    let did = told_finished g.R.Results.owed c.args.cell c.args.seat.now.inner.me _ _ c.args.returned first.0 c.exchange-old.ensures.3 first.1 c.compare_exchange.ensures.2 in
    (c.compare_exchange.ensures.0 ∙ c.exchange-old.ensures.0 ∙ front.0, ap (λ m. m.0.submitters) did.0 ∙ front.1, ap (λ m. m.0.workers) did.0 ∙ front.2)

pub returns-clause-hand : goal.returns-clause-hand
returns-clause-hand g c = let first = c.requires.first in
    let did = told_finished g.R.Results.owed c.args.cell c.args.seat.now.inner.me _ _ c.args.returned first.0 c.exchange-old.ensures.3 first.1 c.compare_exchange.ensures.2 in
    first.1 ∙ ap (λ l. (c.args.cell, c.args.returned) ∷ l) (sym (ap (λ m. m.0.view.hand) did.0))

pub returns-clause-view : goal.returns-clause-view
returns-clause-view g c = let first = c.requires.first in
    let did = told_finished g.R.Results.owed c.args.cell c.args.seat.now.inner.me _ _ c.args.returned first.0 c.exchange-old.ensures.3 first.1 c.compare_exchange.ensures.2 in
    ap (λ m. m.0.view) did.0 ∙ ap (after_finish c.args.seat.now.inner.me.0.view) (sym (ap (λ m. m.0.view.hand) did.0))

pub returns-clause-step : goal.returns-clause-step
returns-clause-step g c = let me = c.args.seat.now.inner.me.0 in let first = c.requires.first in
    let did = told_finished g.R.Results.owed c.args.cell c.args.seat.now.inner.me _ _ c.args.returned first.0 c.exchange-old.ensures.3 first.1 c.compare_exchange.ensures.2 in
    subst (λ (w : View g.row.D.Denot). Led g.R.Results.owed me.submitters me.workers me.view (finishing c.args.cell c.args.returned) w) (sym (ap (λ m. m.0.view) did.0)) did.1

pub exchange-old-requires : goal.exchange-old-requires
exchange-old-requires g c = let me = c.args.seat.now.inner.me in
    (c.requires.front.0, (Blank, stands_first c.args.cell Blank me.1 _ (at_rest me.0.view me.1 c.args.seat.now.keeps.slots c.requires.rest ∙ ap of_hand c.requires.first.1)))

pub unreachable-requires : goal.unreachable-requires
unreachable-requires g c = let me = c.args.seat.now.inner.me in
    c.in_default.not-Blank (same_slot _ _ _ _ me.1 _ _ c.exchange-old.ensures.2 (at_rest me.0.view me.1 c.args.seat.now.keeps.slots c.requires.rest ∙ ap of_hand c.requires.first.1))
