use Rattle.std.proofs.Common.{sym, subst, ap, ◌∙◌, ◌≡◌, ◌<◌, ◌*◌, ◌+◌, ◌∷◌, ℕ, length, arith}
use Rattle.mbj_core.specs.declared.party.View.{View}
use Rattle.mbj_core.specs.Cells.{cell_of}
use Rattle.mbj_core.proofs.Fitting.{rest_open}
use Rattle.mbj_front.specs.declared.slot.Slot.TheVariants.{Blank}
use Rattle.mbj_front.specs.Moves.{publishing, Led}
use Rattle.mbj_front.specs.Inside.Keeps.{of_hand, slots_at}
use Rattle.mbj_front.proofs.Allowed.{publishes_job}
use Rattle.mbj_front.proofs.Kept.{kept_published}
use Rattle.mbj_front.proofs.Slots.{same_slot, stands_first}
use Rattle.mbj_front.proofs.Told.{told_published}
use Rattle.mbj_front.proofs.front.SharedFront.publish.Goals as goal

pub cell_at-at-requires : goal.cell_at-at-requires
cell_at-at-requires g c = let k = c.args.seat.now.keeps in omega (arith, k.few_submitters, (k.spare (λ e. rest_open (sym e ∙ c.requires.opening))).1)

pub compare_exchange-requires : goal.compare_exchange-requires
compare_exchange-requires g c = let t = c.args.self.now.table.shared in let seat = c.args.seat.now in let k = seat.keeps in let v = seat.inner.me.0.view in let told = c.exchange-old.ensures in
    let room = k.spare (λ e. rest_open (sym e ∙ c.requires.opening)) in
    let here : cell_of seat.party (seat.first + seat.out) ≡ cell_of v.number (length v.due) = omega (arith, k.party_is, k.first_is, k.out_is) in (
      told.0 ∙ c.requires.front.0,
      omega (arith, k.word_count, c.cell_at-at.ensures, room.1, ap (λ i. i.words) c.requires.front.0),
      publishes_job g.R.Results.owed t.key.submitters t.key.workers _ _ _ _ _ c.args.job _ (ap (λ m. m.0.root) told.3 ∙ k.cut)
          (subst (λ m. m.0.view.number < m.0.submitters) (sym told.3) (subst (λ (n : ℕ). n < seat.inner.me.0.submitters) k.party_is room.1))
          (c.cell_at-at.ensures ∙ here ∙ ap (λ m. cell_of m.0.view.number (length m.0.view.due)) (sym told.3)) (c.open_word-open.ensures ∙ ap (λ (n : ℕ). 3 + 3 * n) (k.party_is ∙ ap (λ m. m.0.view.number) (sym told.3)))
          (ap (λ m. m.0.view.phase) told.3 ∙ c.requires.opening) (ap (λ m. m.1) told.3),
    )

pub invariant_of-seat : goal.invariant_of-seat
invariant_of-seat g c = let seat = c.args.seat.now in
    let did = told_published g.R.Results.owed _ seat.inner.me _ _ c.args.job c.exchange-old.ensures.3 c.compare_exchange.ensures.2 in
    record { keeps = kept_published _ _ _ _ _ seat.inner.me _ (g.R.Results.owed c.args.job) seat.keeps (ap (λ i. i.words) (c.compare_exchange.ensures.0 ∙ c.exchange-old.ensures.0)) did.0 c.requires.opening }

pub returns-clause-front : goal.returns-clause-front
returns-clause-front g c = let front = c.requires.front in
    let did = told_published g.R.Results.owed _ c.args.seat.now.inner.me _ _ c.args.job c.exchange-old.ensures.3 c.compare_exchange.ensures.2 in
    (c.compare_exchange.ensures.0 ∙ c.exchange-old.ensures.0 ∙ front.0, ap (λ m. m.0.submitters) did.0 ∙ front.1, ap (λ m. m.0.workers) did.0 ∙ front.2)

pub returns-clause-step : goal.returns-clause-step
returns-clause-step g c = let me = c.args.seat.now.inner.me.0 in
    let did = told_published g.R.Results.owed _ c.args.seat.now.inner.me _ _ c.args.job c.exchange-old.ensures.3 c.compare_exchange.ensures.2 in
    subst (λ (w : View g.row.D.Denot). Led g.R.Results.owed me.submitters me.workers me.view (publishing c.args.job) w) (sym (ap (λ m. m.0.view) did.0)) did.1

pub exchange-old-requires : goal.exchange-old-requires
exchange-old-requires g c = let seat = c.args.seat.now in let k = seat.keeps in let v = seat.inner.me.0.view in let at : ℕ = c.cell_at-at.result in
    let here : at ≡ cell_of v.number (length v.due) = omega (arith, c.cell_at-at.ensures, k.party_is, k.first_is, k.out_is) in
    (c.requires.front.0, (Blank, stands_first at Blank seat.inner.me.1 _ (k.slots ∙ ap (λ st. slots_at st v) c.requires.opening ∙ (λ i. (sym here i, Blank) ∷ of_hand v.hand))))

pub unreachable-requires : goal.unreachable-requires
unreachable-requires g c = let seat = c.args.seat.now in let v = seat.inner.me.0.view in
    c.in_default.not-Blank (same_slot _ _ _ _ seat.inner.me.1 _ _ c.exchange-old.ensures.2 (seat.keeps.slots ∙ ap (λ st. slots_at st v) c.requires.opening))

pub returns-clause-view : goal.returns-clause-view
returns-clause-view g c =
    ap (λ m. m.0.view) (told_published g.R.Results.owed _ c.args.seat.now.inner.me _ _ c.args.job c.exchange-old.ensures.3 c.compare_exchange.ensures.2).0
