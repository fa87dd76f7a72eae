-- What a seat keeps after a step.
use Rattle.std.proofs.Common.{◌≡◌, ◌≢◌, ℕ, zero, suc, ◌+◌, ◌-◌, ◌*◌, ◌%◌, ◌<◌, ◌≤◌, List, [], ◌∷◌, ◌++◌, length, sym, refl, ap, ◌∙◌, subst, ⊎_elim, add-one, length-append, arith}
use Rattle.std.specs.Prelude.{Some, slice_get}
use Rattle.atomic_table.specs.Table.{rest}
use Rattle.mbj_core.specs.declared.cells.TheConstants.{MAX_SUBMITTERS, MAX_WORKERS, SUBMITTER_CELLS}
use Rattle.mbj_core.specs.declared.party.View.{View}
use Rattle.mbj_core.specs.declared.party.Phase.{Phase}
use Rattle.mbj_core.specs.declared.party.Phase.TheVariants.{Rest, Opening, Emptying}
use Rattle.mbj_core.specs.Cells.{cell_of}
use Rattle.mbj_core.specs.Parties.{new_party}
use Rattle.mbj_core.proofs.Entries.{at_end}
use Rattle.mbj_core.proofs.Fitting.{rest_open}
use Rattle.mbj_front.specs.declared.slot.Slot.{Slot}
use Rattle.mbj_front.specs.declared.slot.Slot.TheVariants.{Blank}
use Rattle.mbj_front.specs.Rule.{place}
use Rattle.mbj_front.specs.Views.{after_look, after_claim, after_finish, after_publish, after_take, at_phase}
use Rattle.mbj_front.specs.Inside.Plays.{Mine}
use Rattle.mbj_front.specs.Inside.Keeps.{of_hand, slots_at, slots_of, Keeps}

-- nothing stands in an empty list
pub nothing_at : {X : Type 0} (k : ℕ) (x : X) → slice_get [] k ≡ Some x → ⊥
nothing_at zero x e = cc
nothing_at (suc k) x e = cc

module _ {J D : Type 0} where
  -- the party's part is w now
  pub kept : (words words' party first first' out out' : ℕ) (me n : Mine J D) (w : View D) → Keeps words me party first out → words' ≡ words → n.0 ≡ place me.0.submitters me.0.workers w
      → w.number ≡ me.0.view.number → first' ≡ w.handed % SUBMITTER_CELLS → length w.due ≡ w.handed + out' → out' ≤ SUBMITTER_CELLS → (me.0.submitters ≤ party → out' ≡ 0) → (w.phase ≢ Rest → (out' < SUBMITTER_CELLS) × (party < me.0.submitters)) → n.1 ≡ slots_of w
      → ((k c : ℕ) (d : D) → slice_get w.hand k ≡ Some (c, d) → c < words) → Keeps words' n party first' out'
  kept words words' party first first' out out' me n w k wide is num first_is out_is few posters spare slots near =
      subst (λ (z : ℕ × Mine J D). Keeps z.0 z.1 party first' out') (λ t. (sym wide t, (sym is t, n.1))) (record {
        cut = refl;
        few_submitters = k.few_submitters;
        few_workers = k.few_workers;
        word_count = k.word_count;
        party_is = k.party_is ∙ sym num;
        party_near = k.party_near;
        first_is = first_is;
        out_is = out_is;
        few = few;
        posters = posters;
        spare = spare;
        slots = slots;
        near = near;
      })

  of_hand_more : (hand : List (ℕ × D)) (c : ℕ) (d : D) → of_hand {J = J} (hand ++ (c, d) ∷ []) ≡ of_hand hand ++ (c, Blank) ∷ []
  of_hand_more [] c d = refl
  of_hand_more (e ∷ hand) c d = ap (λ (l : List (ℕ × Slot J D)). (e.0, Blank) ∷ l) (of_hand_more hand c d)

  -- at rest the slots are those of the hand
  pub at_rest : (v : View D) (l : List (ℕ × Slot J D)) → l ≡ slots_of v → v.phase ≡ Rest → l ≡ of_hand v.hand
  at_rest v l e r = e ∙ ap (λ st. slots_at st v) r

  pub kept_claimed : (words words' party first out c : ℕ) (me n : Mine J D) (d : D) → Keeps words me party first out → words' ≡ words → n ≡ (place me.0.submitters me.0.workers (after_claim me.0.view c d), me.1 ++ (c, Blank) ∷ [])
      → me.0.view.phase ≡ Rest → c < words → Keeps words' n party first out
  kept_claimed words words' party first out c me n d k wide is r less = let v : View D = me.0.view in let w : View D = after_claim v c d in
      kept words words' party first first out out me n w k wide (ap (λ (m : Mine J D). m.0) is) refl k.first_is k.out_is k.few k.posters k.spare
      (ap (λ (m : Mine J D). m.1) is ∙ ap (λ (l : List (ℕ × Slot J D)). l ++ (c, Blank) ∷ []) (at_rest v me.1 k.slots r) ∙ sym (of_hand_more v.hand c d) ∙ sym (ap (λ st. slots_at st w) r))
      (λ i b e at. ⊎_elim (λ old. k.near i b e old) (λ new. subst (λ (q : ℕ). q < words) (ap (λ (z : ℕ × D). z.0) new.1) less) (at_end v.hand (c, d) (b, e) i at))

  pub kept_finished : (words words' party first out c : ℕ) (me n : Mine J D) (d : D) (hand : List (ℕ × D)) → Keeps words me party first out → words' ≡ words → n ≡ (place me.0.submitters me.0.workers (after_finish me.0.view hand), rest me.1)
      → me.0.view.phase ≡ Rest → me.0.view.hand ≡ (c, d) ∷ hand → Keeps words' n party first out
  kept_finished words words' party first out c me n d hand k wide is r has = let v : View D = me.0.view in let w : View D = after_finish v hand in
      kept words words' party first first out out me n w k wide (ap (λ (m : Mine J D). m.0) is) refl k.first_is k.out_is k.few k.posters k.spare
      (ap (λ (m : Mine J D). m.1) is ∙ ap rest (at_rest v me.1 k.slots r ∙ ap of_hand has) ∙ sym (ap (λ st. slots_at st w) r))
      (λ i b e at. k.near (i + 1) b e (ap (λ (l : List (ℕ × D)). slice_get l (i + 1)) has ∙ subst (λ (j : ℕ). slice_get ((c, d) ∷ hand) j ≡ Some (b, e)) (sym (add-one i)) at))

  pub kept_published : (words words' party first out : ℕ) (me n : Mine J D) (d : D) → Keeps words me party first out → words' ≡ words → n ≡ (place me.0.submitters me.0.workers (after_publish me.0.view d), rest me.1)
      → me.0.view.phase ≡ Opening → Keeps words' n party first (out + 1)
  kept_published words words' party first out me n d k wide is r = let v : View D = me.0.view in let w : View D = after_publish v d in
      let own = k.spare (λ e. rest_open (sym e ∙ r)) in let room = own.0 in let o = k.out_is in let more = length-append v.due (d ∷ []) in
      kept words words' party first first out (out + 1) me n w k wide (ap (λ (m : Mine J D). m.0) is) refl k.first_is (omega arith) (omega arith) (λ far. absurd (omega (arith, own.1))) (λ e. absurd (e refl))
      (ap (λ (m : Mine J D). m.1) is ∙ ap rest (k.slots ∙ ap (λ st. slots_at st v) r)) k.near

  -- a look changes no slot
  look_slots : (phase : Phase) (v : View D) (c word : ℕ) → slots_at {J = J} phase v ≡ slots_at phase (after_look v c word)
  look_slots Rest v c word = refl
  look_slots Opening v c word = refl
  look_slots Emptying v c word = refl

  pub kept_looked : (words words' party first out c word : ℕ) (me n : Mine J D) → Keeps words me party first out → words' ≡ words → n ≡ (place me.0.submitters me.0.workers (after_look me.0.view c word), me.1)
      → Keeps words' n party first out
  kept_looked words words' party first out c word me n k wide is = let v : View D = me.0.view in
      kept words words' party first first out out me n (after_look v c word) k wide (ap (λ (m : Mine J D). m.0) is) refl k.first_is k.out_is k.few k.posters k.spare (ap (λ (m : Mine J D). m.1) is ∙ k.slots ∙ look_slots v.phase v c word) k.near

  pub kept_opened : (words words' party first out c : ℕ) (me n : Mine J D) → Keeps words me party first out → words' ≡ words → n ≡ (place me.0.submitters me.0.workers (at_phase me.0.view Opening), (c, Blank) ∷ me.1)
      → me.0.view.phase ≡ Rest → c ≡ cell_of me.0.view.number (length me.0.view.due) → out < SUBMITTER_CELLS → party < me.0.submitters → Keeps words' n party first out
  kept_opened words words' party first out c me n k wide is r here room own = let v : View D = me.0.view in
      kept words words' party first first out out me n (at_phase v Opening) k wide (ap (λ (m : Mine J D). m.0) is) refl k.first_is k.out_is k.few k.posters (λ _. (room, own))
      (ap (λ (m : Mine J D). m.1) is ∙ (λ i. (here i, Blank) ∷ at_rest v me.1 k.slots r i)) k.near

  pub kept_taken : (words words' party first out c : ℕ) (me n : Mine J D) → Keeps words me party first out → words' ≡ words → n ≡ (place me.0.submitters me.0.workers (after_take me.0.view c), (c, Blank) ∷ me.1)
      → me.0.view.phase ≡ Rest → c ≡ cell_of me.0.view.number me.0.view.handed → me.0.view.handed < length me.0.view.due → party < me.0.submitters → Keeps words' n party ((first + 1) % SUBMITTER_CELLS) (out - 1)
  kept_taken words words' party first out c me n k wide is r here some_out own = let v : View D = me.0.view in
      let o = k.out_is in let f = k.first_is in let few = k.few in
      let round : c ≡ cell_of v.number (v.handed + 1 + (SUBMITTER_CELLS - 1)) = omega arith in
      kept words words' party first ((first + 1) % SUBMITTER_CELLS) out (out - 1) me n (after_take v c) k wide (ap (λ (m : Mine J D). m.0) is) refl (omega arith) (omega arith) (omega arith) (λ far. absurd (omega arith)) (λ _. (omega arith, own))
      (ap (λ (m : Mine J D). m.1) is ∙ (λ i. (round i, Blank) ∷ at_rest v me.1 k.slots r i)) k.near

  pub kept_freed : (words words' party first out : ℕ) (me n : Mine J D) → Keeps words me party first out → words' ≡ words → n ≡ (place me.0.submitters me.0.workers (at_phase me.0.view Rest), rest me.1)
      → me.0.view.phase ≡ Emptying → Keeps words' n party first out
  kept_freed words words' party first out me n k wide is r = let v : View D = me.0.view in
      kept words words' party first first out out me n (at_phase v Rest) k wide (ap (λ (m : Mine J D). m.0) is) refl k.first_is k.out_is k.few k.posters (λ e. absurd (e refl))
      (ap (λ (m : Mine J D). m.1) is ∙ ap rest (k.slots ∙ ap (λ st. slots_at st v) r)) k.near

  -- a seat that was cut has done nothing
  pub kept_cut : (words submitters workers party : ℕ) (me : Mine J D) → words ≡ SUBMITTER_CELLS * submitters → me ≡ (place submitters workers (new_party party), [])
      → submitters ≤ MAX_SUBMITTERS → workers ≤ MAX_WORKERS → party < submitters + workers → Keeps words me party 0 0
  kept_cut words submitters workers party me wide is few few_workers near = subst (λ (m : Mine J D). Keeps words m party 0 0) (sym is) (record {
    cut = refl;
    few_submitters = few;
    few_workers = few_workers;
    word_count = wide;
    party_is = refl;
    party_near = near;
    first_is = refl;
    out_is = refl;
    few = omega arith;
    posters = λ _. refl;
    spare = λ e. absurd (e refl);
    slots = refl;
    near = λ k c d e. absurd (nothing_at k (c, d) e);
  })
