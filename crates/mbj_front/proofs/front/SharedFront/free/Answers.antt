use Rattle.std.proofs.Common.{sym, subst, ap, ◌∙◌, ◌≡◌, ◌<◌, ◌*◌, ◌+◌, ◌-◌, ◌∷◌, ℕ, arith}
use Rattle.mbj_core.specs.declared.cells.TheConstants.{SUBMITTER_CELLS}
use Rattle.mbj_core.specs.declared.party.View.{View}
use Rattle.mbj_core.specs.Cells.{cell_of}
use Rattle.mbj_core.proofs.Fitting.{rest_take}
use Rattle.mbj_front.specs.declared.slot.Slot.TheVariants.{Blank}
use Rattle.mbj_front.specs.Moves.{freeing, Led}
use Rattle.mbj_front.specs.Inside.Keeps.{of_hand, slots_at}
use Rattle.mbj_front.proofs.Allowed.{frees_cell}
use Rattle.mbj_front.proofs.Kept.{kept_freed}
use Rattle.mbj_front.proofs.front.SharedFront.free.Goals as goal

pub cell_at-at-requires : goal.cell_at-at-requires
cell_at-at-requires g c = let k = c.args.seat.now.keeps in omega (arith, k.few_submitters, (k.spare (λ e. rest_take (sym e ∙ c.requires.emptying))).1)

pub compare_exchange-requires : goal.compare_exchange-requires
compare_exchange-requires g c = let t = c.args.self.now.table.shared in let seat = c.args.seat.now in let k = seat.keeps in let v = seat.inner.me.0.view in
    let room = k.spare (λ e. rest_take (sym e ∙ c.requires.emptying)) in
    let here : c.cell_at-at.result ≡ cell_of v.number (v.handed + (SUBMITTER_CELLS - 1)) = omega (arith, c.cell_at-at.ensures, k.party_is, k.first_is) in (
      c.requires.front.0,
      omega (arith, k.word_count, c.cell_at-at.ensures, room.1, ap (λ i. i.words) c.requires.front.0),
      frees_cell g.R.Results.owed t.key.submitters t.key.workers _ _ _ _ _ (of_hand v.hand) k.cut (subst (λ (n : ℕ). n < seat.inner.me.0.submitters) k.party_is room.1) here (c.take_word-take.ensures ∙ ap (λ (n : ℕ). 5 + 3 * n) k.party_is) c.requires.emptying
          (k.slots ∙ ap (λ st. slots_at st v) c.requires.emptying ∙ (λ i. (sym here i, Blank) ∷ of_hand v.hand)),
    )

pub invariant_of-seat : goal.invariant_of-seat
invariant_of-seat g c = let seat = c.args.seat.now in let told = c.compare_exchange.ensures in
    record { keeps = kept_freed _ _ _ _ _ seat.inner.me _ seat.keeps (ap (λ i. i.words) told.0) told.2.0 c.requires.emptying }

pub returns-clause-front : goal.returns-clause-front
returns-clause-front g c = let front = c.requires.front in let told = c.compare_exchange.ensures in
    (told.0 ∙ front.0, ap (λ m. m.0.submitters) told.2.0 ∙ front.1, ap (λ m. m.0.workers) told.2.0 ∙ front.2)

pub returns-clause-view : goal.returns-clause-view
returns-clause-view g c = ap (λ m. m.0.view) c.compare_exchange.ensures.2.0

pub returns-clause-step : goal.returns-clause-step
returns-clause-step g c = let me = c.args.seat.now.inner.me.0 in let did = c.compare_exchange.ensures.2 in
    subst (λ (w : View g.row.D.Denot). Led g.R.Results.owed me.submitters me.workers me.view freeing w) (sym (ap (λ m. m.0.view) did.0)) did.1
