-- A lawful state is lawful as the core sees it, and empty if no party has done anything.
use Rattle.std.proofs.Common.{◌≡◌, ℕ, ◌+◌, ◌/◌, ◌%◌, ◌<◌, ◌≤◌, length, subst, refl, ap, ◌∙◌, sym, arith}
use Rattle.mbj_core.specs.declared.cells.TheConstants.{SUBMITTER_CELLS}
use Rattle.mbj_core.specs.declared.party.View.{View}
use Rattle.mbj_core.specs.declared.party.Phase.TheVariants.{Emptying}
use Rattle.mbj_core.specs.Cells.{Cell, free, ready, done, open_by, hand_of, take_by, cell_of}
use Rattle.mbj_core.proofs.Hands.{not_in_hand}
use Rattle.mbj_core.proofs.Fitting.{rest_open, rest_take, Fits, lawful, each_number}
use Rattle.mbj_front.specs.AsCore.{settled, rested, as_core}
use Rattle.mbj_front.specs.Laws.{CoreSeesLawfulStates, NewFrontsAreEmpty}

module _ {J D : Type 0} where
  still_held : (y : Cell J D) (p : ℕ) (d : D) → settled y ≡ hand_of p d → y ≡ hand_of p d
  still_held free p d e = e
  still_held (ready j) p d e = e
  still_held (done d') p d e = e
  still_held (open_by q) p d e = absurd (not_in_hand free p d refl e)
  still_held (hand_of q d') p d e = e
  still_held (take_by q) p d e = absurd (not_in_hand free p d refl e)

module _ {J D : Type 0} (owed : J → D) where
  settled_fits : (v : View D) (s n : ℕ) (y : Cell J D) → Fits owed v s n y → (v.phase ≡ Emptying → length v.due < v.handed + SUBMITTER_CELLS) → Fits owed (rested v) s n (settled y)
  settled_fits v s n free h room = (h.0, (λ e. absurd (rest_open e)), λ e. absurd (rest_take e))
  settled_fits v s n (ready j) h room = h
  settled_fits v s n (done d) h room = h
  settled_fits v s n (open_by p) h room = (omega (arith, h.0), (λ e. absurd (rest_open e)), λ e. absurd (rest_take e))
  settled_fits v s n (hand_of p d) h room = h
  settled_fits v s n (take_by p) h room = let few = room h.2 in (omega (arith, h.0, few), (λ e. absurd (rest_open e)), λ e. absurd (rest_take e))

  pub sees_lawful : CoreSeesLawfulStates owed
  sees_lawful S W f law = lawful owed S W (as_core f) (record {
    behind = law.behind;
    within = law.within;
    spare = λ s ne. absurd (ne refl);
    emptied = λ s e. absurd (rest_take e);
    each_number = λ s n l lo hi. settled_fits (f.seats s) s n (f.cells (cell_of s n)) (each_number owed S W f law s n l lo hi) (λ e. law.spare s (λ r. rest_take (sym r ∙ e)));
    in_hand = λ p k c d at. let was = law.in_hand p k c d at in (was.0, ap settled was.1);
    held = λ p c d l e. law.held p c d l (still_held (f.cells c) p d e);
    once = law.once;
    posters = λ p far. ((law.posters p far).0, refl);
    nobody = λ p far. ap rested (law.nobody p far);
  })

  -- if no party has done anything each cell is free
  pub all_free : NewFrontsAreEmpty owed
  all_free S W f law new c less =
      let s : ℕ = c / SUBMITTER_CELLS in let n : ℕ = c % SUBMITTER_CELLS in let v : View D = f.seats s in let is = new s in
      let here : cell_of s n ≡ c = omega arith in
      ap f.cells (sym here)
      ∙ law.idle s n (omega arith) (subst (λ (w : View D). length w.due ≤ n) (sym is) (omega arith)) (subst (λ (w : View D). n < w.handed + SUBMITTER_CELLS) (sym is) (omega arith))
      (λ e. absurd (rest_open (sym (ap (λ (w : View D). w.phase) is) ∙ e))) (λ e. absurd (rest_take (sym (ap (λ (w : View D). w.phase) is) ∙ e)))
