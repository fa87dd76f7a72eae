use Rattle.std.proofs.Common.{sym, subst, ap, ◌∙◌, ◌≡◌, ◌+◌, ◌*◌, ℕ, length, arith}
use Rattle.mbj_core.specs.declared.party.View.{View}
use Rattle.mbj_core.specs.Cells.{cell_of}
use Rattle.mbj_front.specs.Moves.{opening, Led}
use Rattle.mbj_front.proofs.Allowed.{opens_next}
use Rattle.mbj_front.proofs.Kept.{kept_opened}
use Rattle.mbj_front.proofs.front.SharedFront.open_cell.Goals as goal

pub compare_exchange-requires : goal.compare_exchange-requires
compare_exchange-requires g c = let t = c.args.self.now.table.shared in let seat = c.args.seat.now in let k = seat.keeps in let v = seat.inner.me.0.view in
    let here : cell_of seat.party (seat.first + seat.out) ≡ cell_of v.number (length v.due) = omega (arith, k.party_is, k.first_is, k.out_is) in (
      c.requires.front.0,
      omega (arith, k.word_count, k.party_is, c.cell_at-at.ensures, c.requires.submitter, c.requires.front.1, ap (λ i. i.words) c.requires.front.0),
      opens_next g.R.Results.owed t.key.submitters t.key.workers _ _ _ _ _ k.cut (omega (arith, c.requires.submitter, c.requires.front.1)) (c.cell_at-at.ensures ∙ here) (c.open_word-open.ensures ∙ ap (λ (n : ℕ). 3 + 3 * n) k.party_is) c.requires.rest c.requires.room,
    )

pub cell_at-at-requires : goal.cell_at-at-requires
cell_at-at-requires g c = let k = c.args.seat.now.keeps in omega (arith, k.few_submitters, k.party_is, c.requires.submitter, c.requires.front.1)

pub invariant_of-seat : goal.invariant_of-seat
invariant_of-seat g c = let seat = c.args.seat.now in let k = seat.keeps in let v = seat.inner.me.0.view in let told = c.compare_exchange.ensures in
    record {
      keeps = kept_opened _ _ _ _ _ c.cell_at-at.result seat.inner.me _ k (ap (λ i. i.words) told.0) told.2.0 c.requires.rest
          (omega (arith, c.cell_at-at.ensures, k.party_is, k.first_is, k.out_is)) (omega (arith, k.out_is, c.requires.room)) (omega (arith, k.party_is, c.requires.submitter, c.requires.front.1));
    }

pub returns-clause-front : goal.returns-clause-front
returns-clause-front g c = let front = c.requires.front in let told = c.compare_exchange.ensures in
    (told.0 ∙ front.0, ap (λ m. m.0.submitters) told.2.0 ∙ front.1, ap (λ m. m.0.workers) told.2.0 ∙ front.2)

pub returns-clause-view : goal.returns-clause-view
returns-clause-view g c = ap (λ m. m.0.view) c.compare_exchange.ensures.2.0

pub returns-clause-step : goal.returns-clause-step
returns-clause-step g c = let me = c.args.seat.now.inner.me.0 in let did = c.compare_exchange.ensures.2 in
    subst (λ (w : View g.row.D.Denot). Led g.R.Results.owed me.submitters me.workers me.view opening w) (sym (ap (λ m. m.0.view) did.0)) did.1
