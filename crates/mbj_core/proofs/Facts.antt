-- What a core tells of each state that it stands for.
use Rattle.std.proofs.Common.{◌≡◌, ℕ, ◌+◌, ◌-◌, ◌*◌, ◌%◌, ◌<◌, ◌≤◌, true, eqb, List, length, sym, ap, ◌∙◌, subst, arith}
use Rattle.std.proofs.Math.Logic.{∥∥₁_elim, ∥∥₁_prop}
use Rattle.std.proofs.Math.Nat.{ℕ_set}
use Rattle.std.proofs.Math.Bool.{Bool-set}
use Rattle.std.proofs.Math.Bridge.{le_prop}
use Rattle.std.specs.Prelude.{Some, slice_get}
use Rattle.std.specs.List.{list_any}
use Rattle.std.proofs.lemmas.Option.{same_Some}
use mathlib.Core.Logic.{dite}
use native.Mathlib.Decide.{dec_le}
use Rattle.mbj_types.specs.Result.{result_of}
use Rattle.mbj_types.specs.declared.job.Job.{Job}
use Rattle.mbj_types.specs.declared.done.Done.{Done}
use Rattle.mbj_core.specs.declared.party.View.{View}
use Rattle.mbj_core.specs.declared.cells.TheConstants.{SUBMITTER_CELLS}
use Rattle.mbj_core.specs.Cells.{hand_of, word_of, cell_of}
use Rattle.mbj_core.specs.Parties.{FrontState}
use Rattle.mbj_core.specs.Lawful.{Lawful}
use Rattle.mbj_core.specs.Events.{Event, Answer}
use Rattle.mbj_core.specs.CoreStates.{CoreState}
use Rattle.mbj_core.specs.Stands.{StandsFor, Leads, IsBacked}
use Rattle.mbj_core.proofs.Words.{free_word, hand_word, same_result}
use Rattle.mbj_core.proofs.Carried.{cells_of, Once, cell_at, entry_at, found, find}
use Rattle.mbj_core.proofs.Fitting.{rest_open, rest_take, Fits, fits_due, free_there, lawful, each_number}
use Rattle.mbj_core.proofs.Posts.{near}
use Rattle.mbj_core.proofs.Steps.{step_sound}

pub record Facts (c : CoreState) (f : FrontState Job Done) : Type 0 where
  pub few : (s : ℕ) → s < c.submitters → length (f.seats s).due ≤ (f.seats s).handed + SUBMITTER_CELLS
  pub idle : (s n : ℕ) → s < c.submitters → length (f.seats s).due ≤ n → n < (f.seats s).handed + SUBMITTER_CELLS → word_of (f.cells (cell_of s n)) ≡ 0
  pub close : (p k i : ℕ) (d : Done) → slice_get (f.seats p).hand k ≡ Some (i, d) → i < SUBMITTER_CELLS * c.submitters
  pub holder : (p k i : ℕ) (d : Done) → slice_get (f.seats p).hand k ≡ Some (i, d) → word_of (f.cells i) ≡ 4 + 3 * p
  pub held : (p i : ℕ) → i < SUBMITTER_CELLS * c.submitters → word_of (f.cells i) ≡ 4 + 3 * p → list_any (eqb i) (cells_of (f.seats p).hand) ≡ true
  pub once : (p : ℕ) → Once (f.seats p).hand

module _ (c : CoreState) (f g : FrontState Job Done) (sf : StandsFor c f) (sg : StandsFor c g) where
  -- two states that a core stands for have the same cells, and the same cells in each hand
  same_cell : (i : ℕ) → i < SUBMITTER_CELLS * c.submitters → f.cells i ≡ g.cells i
  same_cell i l = same_Some (f.cells i) (g.cells i) (sym (sf.each_cell i l) ∙ sg.each_cell i l)

  same_hand : (p : ℕ) → cells_of (f.seats p).hand ≡ cells_of (g.seats p).hand
  same_hand p = dite (dec_le (c.submitters + c.workers) p)
      (λ far. ap (λ (v : View Done). cells_of v.hand) (sf.nobody p far ∙ sym (sg.nobody p far)))
      (λ near. same_Some (cells_of (f.seats p).hand) (cells_of (g.seats p).hand) (sym (sf.each_hand p (omega arith)) ∙ sg.each_hand p (omega arith)))

  entry_in : (p k i : ℕ) (d : Done) → slice_get (f.seats p).hand k ≡ Some (i, d) → (e : Done) × (slice_get (g.seats p).hand k ≡ Some (i, e))
  entry_in p k i d at = entry_at (g.seats p).hand k i (ap (λ (l : List ℕ). slice_get l k) (sym (same_hand p)) ∙ cell_at (f.seats p).hand k i d at)

  idle_in : Lawful result_of c.submitters c.workers g → (s n : ℕ) → s < c.submitters → length (f.seats s).due ≤ n → n < (f.seats s).handed + SUBMITTER_CELLS → word_of (f.cells (cell_of s n)) ≡ 0
  idle_in law s n l lo hi =
      let h : ℕ = (f.seats s).handed in let h' : ℕ = (g.seats s).handed in let m : ℕ = h' + (n - h) in
      let a = sf.each_out s l in let b = sg.each_out s l in let x = sf.each_first s l in let y = sg.each_first s l in
      let turn : h % SUBMITTER_CELLS ≡ h' % SUBMITTER_CELLS = x ∙ sym y in
      let same : cell_of s n ≡ cell_of s m = omega arith in
      let there = free_there result_of (g.seats s) s m (g.cells (cell_of s m)) (each_number result_of c.submitters c.workers g law s m l (omega arith) (omega arith)) (sg.at_rest s).1 (omega arith) in
      ap (λ (i : ℕ). word_of (f.cells i)) same ∙ ap word_of (same_cell (cell_of s m) (near c.submitters s m l) ∙ there)

  pub facts : Lawful result_of c.submitters c.workers g → Facts c f
  facts law = record {
    few = λ s l. let a = sf.each_out s l in let b = sg.each_out s l in let w = law.within s in omega arith;
    idle = idle_in law;
    close = λ p k i d at. let e = entry_in p k i d at in (law.in_hand p k i e.0 e.1).0;
    holder = λ p k i d at. let e = entry_in p k i d at in let was = law.in_hand p k i e.0 e.1 in ap word_of (same_cell i was.0 ∙ was.1);
    held = λ p i l w. let h = hand_word (g.cells i) p (ap word_of (sym (same_cell i l)) ∙ w) in let at = law.held p i h.0 l h.1 in
        ap (λ (t : List ℕ). list_any (eqb i) t) (same_hand p) ∙ found (g.seats p).hand at.0 i h.0 at.1;
    once = λ p k m i d e a b. let x = entry_in p k i d a in let y = entry_in p m i e b in law.once p k m i x.0 y.0 x.1 y.1;
  }

module _ (c : CoreState) (f : FrontState Job Done) (sf : StandsFor c f) where
  -- they hold if a lawful state stands behind the core
  pub facts_of : IsBacked c → Facts c f
  facts_of backed = record {
    few = λ s l. ∥∥₁_elim backed le_prop (λ h. (facts c f h.0 sf h.1 h.2).few s l);
    idle = λ s n l lo hi. ∥∥₁_elim backed (ℕ_set _ _) (λ h. (facts c f h.0 sf h.1 h.2).idle s n l lo hi);
    close = λ p k i d at. ∥∥₁_elim backed le_prop (λ h. (facts c f h.0 sf h.1 h.2).close p k i d at);
    holder = λ p k i d at. ∥∥₁_elim backed (ℕ_set _ _) (λ h. (facts c f h.0 sf h.1 h.2).holder p k i d at);
    held = λ p i l w. ∥∥₁_elim backed (Bool-set _ _) (λ h. (facts c f h.0 sf h.1 h.2).held p i l w);
    once = λ p k m i d e a b. ∥∥₁_elim backed (ℕ_set _ _) (λ h. (facts c f h.0 sf h.1 h.2).once p k m i d e a b);
  }

  number_fits : Facts c f → (s n : ℕ) → s < c.submitters → (f.seats s).handed ≤ n → n < (f.seats s).handed + SUBMITTER_CELLS → Fits result_of (f.seats s) s n (f.cells (cell_of s n))
  number_fits all s n l lo hi = let rest = (sf.at_rest s).1 in let v : View Done = f.seats s in dite (dec_le (length v.due) n)
      (λ past. subst (Fits result_of v s n) (sym (free_word (f.cells (cell_of s n)) (all.idle s n l past hi))) (past, (λ e. absurd (rest_open (sym rest ∙ e))), λ e. absurd (rest_take (sym rest ∙ e))))
      (λ out. fits_due result_of v s n (f.cells (cell_of s n)) (omega arith) (sf.due_results s n l lo (omega arith)))

  -- each state that the core stands for is lawful
  pub lawful_of : Facts c f → Lawful result_of c.submitters c.workers f
  lawful_of all = lawful result_of c.submitters c.workers _ (record {
    behind = λ s. dite (dec_le c.submitters s) (λ far. let z = (sf.posters s far).1 in omega arith) (λ near. let a = sf.each_out s (omega arith) in omega arith);
    within = λ s. dite (dec_le c.submitters s) (λ far. let z = ap (λ (l : List Done). length l) (sf.posters s far).0 in omega arith) (λ near. all.few s (omega arith));
    spare = λ s ne. absurd (ne (sf.at_rest s).1);
    emptied = λ s e. absurd (rest_take (sym (sf.at_rest s).1 ∙ e));
    each_number = number_fits all;
    in_hand = λ p k i d at. let h = hand_word (f.cells i) p (all.holder p k i d at) in
        (all.close p k i d at, h.1 ∙ ap (hand_of p) (same_result result_of (f.cells i) p h.0 d h.1 (sf.hand_results p k i d at)));
    held = λ p i d l is. let r = find (f.seats p).hand i (all.held p i l (ap word_of is)) in
        let same : d ≡ r.1 = same_result result_of (f.cells i) p d r.1 is (sf.hand_results p r.0 i r.1 r.2) in
        (r.0, r.2 ∙ ap (λ (e : Done). Some (i, e)) (sym same));
    once = all.once;
    posters = λ p far. ((sf.posters p far).0, (sf.at_rest p).1);
    nobody = sf.nobody;
  })

-- a call that leads by an event keeps a lawful state behind the core
pub backed_after : (old new : CoreState) (e : Event Job Done) (a : Answer Job Done) → new.submitters ≡ old.submitters → new.workers ≡ old.workers → Leads old e a new → IsBacked old → IsBacked new
backed_after old new e a same same' leads backed = ∥∥₁_elim backed ∥∥₁_prop (λ h. let to = leads h.0 h.1 in
    ∣ (to.0, to.2, subst (λ (n : ℕ × ℕ). Lawful result_of n.0 n.1 to.0) (λ t. (sym same t, sym same' t)) (step_sound result_of old.submitters old.workers h.0 to.0 e a to.1 ((λ p. (h.1.at_rest p).1), h.2)).1) ∣₁)
