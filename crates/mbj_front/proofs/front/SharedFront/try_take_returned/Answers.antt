use Rattle.std.proofs.Common.{Some, sym, subst, ap, ◌∙◌, ◌≡◌, ◌*◌, ◌+◌, ◌∷◌, ◌<◌, ℕ, length, arith}
use mathlib.Core.Logic.{dite}
use native.Mathlib.Decide.{dec_le}
use Rattle.atomic_table.specs.Table.{rest}
use Rattle.mbj_core.specs.declared.party.View.{View}
use Rattle.mbj_core.specs.Cells.{cell_of}
use Rattle.mbj_front.specs.declared.slot.Slot.TheVariants.{Blank, Made}
use Rattle.mbj_front.specs.Views.{after_look, after_take}
use Rattle.mbj_front.specs.Moves.{looking, taking, Led}
use Rattle.mbj_front.specs.Inside.Plays.{Mine}
use Rattle.mbj_front.specs.Inside.Keeps.{Keeps}
use Rattle.mbj_front.proofs.Allowed.{tries_take}
use Rattle.mbj_front.proofs.Kept.{kept_looked, kept_taken}
use Rattle.mbj_front.proofs.Slots.{same_slot, same_result}
use Rattle.mbj_front.proofs.front.SharedFront.try_take_returned.Goals as goal

-- a party with one out is a submitter
owner : {J D : Type 0} (words party first out : ℕ) (me : Mine J D) → Keeps words me party first out → me.0.view.handed < length me.0.view.due → party < me.0.submitters
owner words party first out me k some_out = dite (dec_le me.0.submitters party) (λ far. let none = k.posters far in absurd (omega (arith, none, k.out_is, some_out))) (λ near. omega (arith, near))

pub cell_at-at-requires : goal.cell_at-at-requires
cell_at-at-requires g c = let k = c.args.seat.now.keeps in omega (arith, k.few_submitters, owner _ _ _ _ _ k c.requires.out)

pub compare_exchange-word-requires : goal.compare_exchange-word-requires
compare_exchange-word-requires g c = let t = c.args.self.now.table.shared in let seat = c.args.seat.now in let k = seat.keeps in let v = seat.inner.me.0.view in
    let own = owner _ _ _ _ _ k c.requires.out in
    let here : cell_of seat.party seat.first ≡ cell_of v.number v.handed = omega (arith, k.party_is, k.first_is) in (
      c.requires.front.0,
      omega (arith, k.word_count, c.cell_at-at.ensures, own, ap (λ i. i.words) c.requires.front.0),
      tries_take g.R.Results.owed t.key.submitters t.key.workers _ _ _ _ _ k.cut (omega (arith, own, k.party_is)) (c.cell_at-at.ensures ∙ here) (c.take_word-take.ensures ∙ ap (λ (n : ℕ). 5 + 3 * n) k.party_is) c.requires.rest c.requires.out,
    )

pub exchange-slot-requires : goal.exchange-slot-requires
exchange-slot-requires g c = let did = c.compare_exchange-word.ensures.2.0 c.if-word-ne-DONE.false in let at : ℕ = c.cell_at-at.result in
    (c.compare_exchange-word.ensures.0 ∙ c.requires.front.0, (Made did.0, let has = ap (λ m. m.1) did.2.0 in has ∙ (λ i. (at, Made did.0) ∷ ap rest (sym has) i)))

pub invariant_of-seat : goal.invariant_of-seat
invariant_of-seat g c = let seat = c.args.seat.now in let told = c.compare_exchange-word.ensures in
    record { keeps = kept_looked _ _ _ _ _ c.cell_at-at.result c.compare_exchange-word.result seat.inner.me _ seat.keeps (ap (λ i. i.words) told.0) (told.2.1 c.if-word-ne-DONE.true).0 }

pub invariant_of-seat-2 : goal.invariant_of-seat-2
invariant_of-seat-2 g c = let seat = c.args.seat.now in let k = seat.keeps in let told = c.compare_exchange-word.ensures in let put = c.exchange-slot.ensures in let at : ℕ = c.cell_at-at.result in
    let did = told.2.0 c.if-word-ne-DONE.false in
    record {
      keeps = kept_taken _ _ _ _ _ at seat.inner.me _ k (ap (λ i. i.words) (put.0 ∙ told.0)) (put.3 ∙ ap (λ m. (m.0, (at, Blank) ∷ rest m.1)) did.2.0)
          c.requires.rest (omega (arith, c.cell_at-at.ensures, k.party_is, k.first_is)) c.requires.out (owner _ _ _ _ _ k c.requires.out);
    }

pub unreachable-requires : goal.unreachable-requires
unreachable-requires g c = let did = c.compare_exchange-word.ensures.2.0 c.if-word-ne-DONE.false in
    c.in_default.not-Made did.0 (same_slot _ _ _ _ _ _ _ c.exchange-slot.ensures.2 (ap (λ m. m.1) did.2.0))

pub returns-clause-front : goal.returns-clause-front
returns-clause-front g c = let front = c.requires.front in let told = c.compare_exchange-word.ensures in let put = c.exchange-slot.ensures in
    let is = (told.2.0 c.if-word-ne-DONE.false).2.0 in
    (put.0 ∙ told.0 ∙ front.0, ap (λ m. m.0.submitters) put.3 ∙ ap (λ m. m.0.submitters) is ∙ front.1, ap (λ m. m.0.workers) put.3 ∙ ap (λ m. m.0.workers) is ∙ front.2)

pub returns-clause-result : goal.returns-clause-result
returns-clause-result g c = let did = c.compare_exchange-word.ensures.2.0 c.if-word-ne-DONE.false in
    did.1 ∙ ap Some (same_result did.0 c.in-Made.returned (same_slot _ _ _ _ _ _ _ (ap (λ m. m.1) did.2.0) c.exchange-slot.ensures.2 ∙ c.in-Made.is))

pub returns-clause-view : goal.returns-clause-view
returns-clause-view g c = let seat = c.args.seat.now in let k = seat.keeps in let v = seat.inner.me.0.view in
    let here : c.cell_at-at.result ≡ cell_of v.number v.handed = omega (arith, c.cell_at-at.ensures, k.party_is, k.first_is) in
    ap (λ m. m.0.view) c.exchange-slot.ensures.3 ∙ ap (λ m. m.0.view) (c.compare_exchange-word.ensures.2.0 c.if-word-ne-DONE.false).2.0 ∙ ap (after_take v) here

pub returns-clause-step : goal.returns-clause-step
returns-clause-step g c = let me = c.args.seat.now.inner.me.0 in let did = c.compare_exchange-word.ensures.2.0 c.if-word-ne-DONE.false in let put = c.exchange-slot.ensures in
    let same = same_result did.0 c.in-Made.returned (same_slot _ _ _ _ _ _ _ (ap (λ m. m.1) did.2.0) put.2 ∙ c.in-Made.is) in
    subst (λ (x : g.row.D.Denot × View g.row.D.Denot). Led g.R.Results.owed me.submitters me.workers me.view (taking x.0) x.1)
    (λ i. (same i, sym (ap (λ m. m.0.view) put.3 ∙ ap (λ m. m.0.view) did.2.0) i)) did.2.1

pub returns-then-word-ne-DONE-clause-front : goal.returns-then-word-ne-DONE-clause-front
returns-then-word-ne-DONE-clause-front g c = let front = c.requires.front in let told = c.compare_exchange-word.ensures in let is = (told.2.1 c.if-word-ne-DONE.true).0 in
    (told.0 ∙ front.0, ap (λ m. m.0.submitters) is ∙ front.1, ap (λ m. m.0.workers) is ∙ front.2)

pub returns-then-word-ne-DONE-clause-found : goal.returns-then-word-ne-DONE-clause-found
returns-then-word-ne-DONE-clause-found g c = c.if-word-ne-DONE.true

pub returns-then-word-ne-DONE-clause-view : goal.returns-then-word-ne-DONE-clause-view
returns-then-word-ne-DONE-clause-view g c = let seat = c.args.seat.now in let k = seat.keeps in let v = seat.inner.me.0.view in let word : ℕ = c.compare_exchange-word.result in
    let here : c.cell_at-at.result ≡ cell_of v.number v.handed = omega (arith, c.cell_at-at.ensures, k.party_is, k.first_is) in
    ap (λ m. m.0.view) (c.compare_exchange-word.ensures.2.1 c.if-word-ne-DONE.true).0 ∙ ap (λ (n : ℕ). after_look v n word) here

pub returns-then-word-ne-DONE-clause-step : goal.returns-then-word-ne-DONE-clause-step
returns-then-word-ne-DONE-clause-step g c = let seat = c.args.seat.now in let k = seat.keeps in let me = seat.inner.me.0 in let v = me.view in let word : ℕ = c.compare_exchange-word.result in
    let here : c.cell_at-at.result ≡ cell_of v.number v.handed = omega (arith, c.cell_at-at.ensures, k.party_is, k.first_is) in
    let look = c.compare_exchange-word.ensures.2.1 c.if-word-ne-DONE.true in
    subst (λ (x : ℕ × View g.row.D.Denot). Led g.R.Results.owed me.submitters me.workers v (looking x.0 word) x.1) (λ i. (here i, sym (ap (λ m. m.0.view) look.0) i)) look.1
