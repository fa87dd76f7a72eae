use Rattle.std.proofs.Common.{ap, ◌∙◌, ◌+◌, ◌*◌, ◌∷◌, ℕ, arith, sym, subst}
use Rattle.atomic_table.specs.Table.{rest, turned}
use Rattle.mbj_core.specs.declared.party.View.{View}
use Rattle.mbj_front.specs.declared.slot.Slot.TheVariants.{Blank, Task}
use Rattle.mbj_front.specs.Views.{after_claim}
use Rattle.mbj_front.specs.Moves.{claiming, looking, Led}
use Rattle.mbj_front.proofs.Allowed.{tries_claim}
use Rattle.mbj_front.proofs.Kept.{kept_claimed, kept_looked}
use Rattle.mbj_front.proofs.Slots.{same_slot, same_task}
use Rattle.mbj_front.proofs.front.SharedFront.try_claim.Goals as goal

pub claim_word-word-requires : goal.claim_word-word-requires
claim_word-word-requires g c = let size = c.args.self.now.table.shared.key in let k = c.args.seat.now.keeps in record {
  table = c.requires.front.0;
  cell = omega (arith, k.word_count, c.requires.cell, c.requires.front.1, ap (λ i. i.words) c.requires.front.0);
  allowed = tries_claim g.R.Results.owed size.submitters size.workers _ _ c.args.cell _ _ k.cut (omega (arith, c.requires.cell, c.requires.front.1)) (c.hand_word-hand.ensures ∙ ap (λ (n : ℕ). 4 + 3 * n) k.party_is);
}

pub exchange-slot-requires : goal.exchange-slot-requires
exchange-slot-requires g c = let did = c.claim_word-word.ensures.told.0 c.if-word-ne-READY.false in
    (c.claim_word-word.ensures.table ∙ c.requires.front.0, (Task did.0, let has = ap (λ m. m.1) did.1.0 in has ∙ (λ i. (c.args.cell, Task did.0) ∷ ap rest (sym has) i)))

pub invariant_of-seat-2 : goal.invariant_of-seat-2
invariant_of-seat-2 g c = let did = c.claim_word-word.ensures.told.0 c.if-word-ne-READY.false in let k = c.args.seat.now.keeps in let told = c.exchange-slot.ensures.3 in
    record {
      keeps = kept_claimed _ _ _ _ _ c.args.cell c.args.seat.now.inner.me _ _ k
          (ap (λ i. i.words) (c.turn.ensures.0 ∙ c.exchange-slot.ensures.0 ∙ c.claim_word-word.ensures.table))
          (c.turn.ensures.2 ∙ ap (λ m. (m.0, turned m.1)) told ∙ ap (λ m. (m.0, turned ((c.args.cell, Blank) ∷ rest m.1))) did.1.0)
          c.requires.rest (omega (arith, k.word_count, c.requires.cell, c.requires.front.1));
    }

pub invariant_of-seat : goal.invariant_of-seat
invariant_of-seat g c = let seat = c.args.seat.now in let word = c.claim_word-word.ensures in
    record { keeps = kept_looked _ _ _ _ _ c.args.cell c.claim_word-word.result seat.inner.me _ seat.keeps (ap (λ i. i.words) word.table) (word.told.1 c.if-word-ne-READY.true).0 }

pub unreachable-requires : goal.unreachable-requires
unreachable-requires g c = let did = c.claim_word-word.ensures.told.0 c.if-word-ne-READY.false in
    c.in_default.not-Task did.0 (same_slot _ _ _ _ _ _ _ c.exchange-slot.ensures.2 (ap (λ m. m.1) did.1.0))

pub returns-clause-front : goal.returns-clause-front
returns-clause-front g c = let front = c.requires.front in let word = c.claim_word-word.ensures in let put = c.exchange-slot.ensures in let turn = c.turn.ensures in
    let is = (word.told.0 c.if-word-ne-READY.false).1.0 in (
      turn.0 ∙ put.0 ∙ word.table ∙ front.0,
      ap (λ m. m.0.submitters) turn.2 ∙ ap (λ m. m.0.submitters) put.3 ∙ ap (λ m. m.0.submitters) is ∙ front.1,
      ap (λ m. m.0.workers) turn.2 ∙ ap (λ m. m.0.workers) put.3 ∙ ap (λ m. m.0.workers) is ∙ front.2,
    )

pub returns-clause-view : goal.returns-clause-view
returns-clause-view g c = let v = c.args.seat.now.inner.me.0.view in let did = c.claim_word-word.ensures.told.0 c.if-word-ne-READY.false in let put = c.exchange-slot.ensures in
    let same = same_task did.0 c.in-Task.job (same_slot _ _ _ _ _ _ _ (ap (λ m. m.1) did.1.0) put.2 ∙ c.in-Task.is) in
    ap (λ m. m.0.view) c.turn.ensures.2 ∙ ap (λ m. m.0.view) put.3 ∙ ap (λ m. m.0.view) did.1.0 ∙ ap (λ j. after_claim v c.args.cell (g.R.Results.owed j)) same

pub returns-clause-step : goal.returns-clause-step
returns-clause-step g c = let me = c.args.seat.now.inner.me.0 in let did = c.claim_word-word.ensures.told.0 c.if-word-ne-READY.false in let put = c.exchange-slot.ensures in
    let same = same_task did.0 c.in-Task.job (same_slot _ _ _ _ _ _ _ (ap (λ m. m.1) did.1.0) put.2 ∙ c.in-Task.is) in
    subst (λ (x : g.row.J.Denot × View g.row.D.Denot). Led g.R.Results.owed me.submitters me.workers me.view (claiming c.args.cell x.0) x.1)
    (λ i. (same i, sym (ap (λ m. m.0.view) c.turn.ensures.2 ∙ ap (λ m. m.0.view) put.3 ∙ ap (λ m. m.0.view) did.1.0) i)) did.1.1

pub returns-then-word-ne-READY-clause-front : goal.returns-then-word-ne-READY-clause-front
returns-then-word-ne-READY-clause-front g c = let front = c.requires.front in let word = c.claim_word-word.ensures in let is = (word.told.1 c.if-word-ne-READY.true).0 in
    (word.table ∙ front.0, ap (λ m. m.0.submitters) is ∙ front.1, ap (λ m. m.0.workers) is ∙ front.2)

pub returns-then-word-ne-READY-clause-found : goal.returns-then-word-ne-READY-clause-found
returns-then-word-ne-READY-clause-found g c = c.if-word-ne-READY.true

pub returns-then-word-ne-READY-clause-view : goal.returns-then-word-ne-READY-clause-view
returns-then-word-ne-READY-clause-view g c = ap (λ m. m.0.view) (c.claim_word-word.ensures.told.1 c.if-word-ne-READY.true).0

pub returns-then-word-ne-READY-clause-step : goal.returns-then-word-ne-READY-clause-step
returns-then-word-ne-READY-clause-step g c = let me = c.args.seat.now.inner.me.0 in let look = c.claim_word-word.ensures.told.1 c.if-word-ne-READY.true in
    subst (λ (w : View g.row.D.Denot). Led g.R.Results.owed me.submitters me.workers me.view (looking c.args.cell c.claim_word-word.result) w) (sym (ap (λ m. m.0.view) look.0)) look.1
