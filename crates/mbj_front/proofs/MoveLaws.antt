-- What holds of each kind of step: it keeps the law, it finds its cell, and what the core sees of it.
use Rattle.std.proofs.Common.{◌≡◌, ℕ, ◌+◌, ◌-◌, ◌≤◌, [], ◌∷◌, ◌++◌, List, length, sym, refl, ap, ◌∙◌, subst, arith}
use Rattle.std.specs.Prelude.{slice_get}
use mathlib.Core.Path.{fun_ext}
use mathlib.Core.Logic.{dite}
use native.Mathlib.Decide.{ℕ_discrete}
use Rattle.mbj_core.specs.declared.cells.TheConstants.{SUBMITTER_CELLS}
use Rattle.mbj_core.specs.declared.party.View.{View}
use Rattle.mbj_core.specs.declared.party.Phase.TheVariants.{Rest, Opening}
use Rattle.mbj_core.specs.Cells.{Cell, free, ready, done, open_by, hand_of, take_by, result_in, cell_of}
use Rattle.mbj_core.specs.Parties.{FrontState, front}
use Rattle.mbj_core.specs.Lawful.{Lawful}
use Rattle.mbj_core.specs.Events.{Changes}
use Rattle.mbj_core.proofs.Puts.{put, at_put}
use Rattle.mbj_core.proofs.Entries.{at_middle}
use Rattle.mbj_core.proofs.Fitting.{rest_open}
use Rattle.mbj_core.proofs.Hands.{claims, finishes, relooks}
use Rattle.mbj_core.proofs.Phases.{opens, publishes, takes_done, frees}
use Rattle.mbj_core.proofs.Steps.{same_front, changes_are}
use Rattle.mbj_front.specs.Views.{after_look, after_claim, after_finish, after_publish, after_take, at_phase}
use Rattle.mbj_front.specs.AsCore.{settled, rested, as_core}
use Rattle.mbj_front.specs.Moves.{Move, opening, publishing, claiming, finishing, taking, freeing, looking, Moves, Finds, CoreSees, Led}

-- the cell of the number before h is that of the last of the SUBMITTER_CELLS numbers from h on
pub last_cell : (s h : ℕ) → 1 ≤ h → cell_of s (h - 1) ≡ cell_of s (h + (SUBMITTER_CELLS - 1))
last_cell s h some = omega arith

module _ {J D : Type 0} where
  -- f with x in the cell c and w for the part of the party p
  abbrev pub after : FrontState J D → ℕ → Cell J D → ℕ → View D → FrontState J D
  after f c x p w = front (put f.cells c x) (put f.seats p w)

  -- a cell that is put where it is
  put_same : (cells : ℕ → Cell J D) (c : ℕ) → put cells c (cells c) ≡ cells
  put_same cells c = fun_ext {f = put cells c (cells c)} {g = cells} (λ i. at_put cells c (cells c) (λ j y. y ≡ cells j) i refl (λ _. refl))

  core_changes : (f g : FrontState J D) (c : ℕ) (x : Cell J D) (p : ℕ) (w : View D) → Changes f g c x p w → Changes (as_core f) (as_core g) c (settled x) p (rested w)
  core_changes f g c x p w ch = record {
    cell = ap settled ch.cell;
    other_cells = λ i ne. ap settled (ch.other_cells i ne);
    party = ap rested ch.party;
    other_parties = λ q ne. ap rested (ch.other_parties q ne);
  }

  core_same : (f g : FrontState J D) (c : ℕ) (x : Cell J D) (p : ℕ) (w : View D) → Changes f g c x p w → settled x ≡ settled (f.cells c) → rested w ≡ rested (f.seats p) → as_core g ≡ as_core f
  core_same f g c x p w ch a b = same_front (as_core f) (as_core g)
      (λ i. dite (ℕ_discrete i c) (λ e. subst (λ (k : ℕ). settled (g.cells k) ≡ settled (f.cells k)) (sym e) (ap settled ch.cell ∙ a)) (λ ne. ap settled (ch.other_cells i ne)))
      (λ q. dite (ℕ_discrete q p) (λ e. subst (λ (k : ℕ). rested (g.seats k) ≡ rested (f.seats k)) (sym e) (ap rested ch.party ∙ b)) (λ ne. ap rested (ch.other_parties q ne)))

module _ {J D : Type 0} (owed : J → D) (S W : ℕ) where
  -- what is lawful of f with one cell and one part changed is lawful of g
  changed : (f g : FrontState J D) (c : ℕ) (x : Cell J D) (p : ℕ) (w : View D) → Changes f g c x p w → Lawful owed S W (after f c x p w) → Lawful owed S W g
  changed f g c x p w ch law = subst (Lawful owed S W) (sym (changes_are f g c x p w ch)) law

  pub keeps_law : (p : ℕ) (move : Move J D) (f g : FrontState J D) → Lawful owed S W f → Moves owed S W f p move g → Lawful owed S W g
  keeps_law p opening f g law mv = let v : View D = f.seats p in
      changed f g (cell_of p (length v.due)) (open_by p) p (at_phase v Opening) mv.3 (opens owed S W f p v.looks law mv.0 mv.1 mv.2).1
  keeps_law p (publishing j) f g law mv = let v : View D = f.seats p in
      changed f g (cell_of p (length v.due)) (ready j) p (after_publish v (owed j)) mv.2 (publishes owed S W f p j v.looks law mv.0 mv.1).1
  keeps_law p (claiming c j) f g law mv = let v : View D = f.seats p in
      changed f g c (hand_of p (owed j)) p (after_claim v c (owed j)) mv.3 (claims owed S W f c p j (v.looks ++ (c, 1) ∷ []) law mv.0 mv.1 mv.2)
  keeps_law p (finishing c d) f g law mv = let v : View D = f.seats p in
      changed f g c (done d) p (after_finish v mv.1.0) mv.1.2 (finishes owed S W f c p d mv.1.0 v.looks law mv.0 mv.1.1)
  keeps_law p (taking d) f g law mv = let v : View D = f.seats p in let c : ℕ = cell_of p v.handed in
      changed f g c (take_by p) p (after_take v c) mv.4 (takes_done owed S W f p d (v.looks ++ (c, 2) ∷ []) law mv.0 mv.1 mv.2 mv.3)
  keeps_law p freeing f g law mv = let v : View D = f.seats p in
      changed f g (cell_of p (v.handed - 1)) free p (at_phase v Rest) mv.2
      (subst (λ (c : ℕ). Lawful owed S W (after f c free p (at_phase v Rest))) (sym (last_cell p v.handed (law.emptied p mv.1))) (frees owed S W f p v.looks law mv.0 mv.1).1)
  keeps_law p (looking c word) f g law mv = let v : View D = f.seats p in let w : View D = after_look v c word in
      changed f g c (f.cells c) p w mv.3 (subst (λ (cells : ℕ → Cell J D). Lawful owed S W (front cells (put f.seats p w))) (sym (put_same f.cells c)) (relooks owed S W f p w.looks law mv.0))

  pub finds_cell : (p : ℕ) (move : Move J D) (f g : FrontState J D) → Lawful owed S W f → Moves owed S W f p move g → Finds f p move
  finds_cell p opening f g law mv = (opens owed S W f p (f.seats p).looks law mv.0 mv.1 mv.2).0
  finds_cell p (publishing j) f g law mv = law.filling p mv.0 mv.1
  finds_cell p (claiming c j) f g law mv = mv.2
  finds_cell p (finishing c d) f g law mv = let before : List (ℕ × D) = mv.1.1.0 in let leaves = mv.1.1 in
      (law.in_hand p (length before) c d (ap (λ (l : List (ℕ × D)). slice_get l (length before)) leaves.2 ∙ at_middle before leaves.1 (c, d))).1
  finds_cell p (taking d) f g law mv = (mv.3, sym (law.each_out p (f.seats p).handed mv.0 (omega arith) mv.2) ∙ ap (result_in owed) mv.3)
  finds_cell p freeing f g law mv = law.emptying p mv.0 mv.1
  finds_cell p (looking c word) f g law mv = mv.2

  pub core_sees : (p : ℕ) (move : Move J D) (f g : FrontState J D) → Lawful owed S W f → Moves owed S W f p move g → CoreSees owed S W (as_core f) p move (as_core g)
  core_sees p opening f g law mv = let v : View D = f.seats p in
      core_same f g (cell_of p (length v.due)) (open_by p) p (at_phase v Opening) mv.3 (ap settled (sym (finds_cell p opening f g law mv))) refl
  core_sees p (publishing j) f g law mv = let v : View D = f.seats p in
      (mv.0, law.spare p (λ e. rest_open (sym e ∙ mv.1)), core_changes f g (cell_of p (length v.due)) (ready j) p (after_publish v (owed j)) mv.2)
  core_sees p (claiming c j) f g law mv = (mv.0, mv.1, ap settled mv.2, core_changes f g c (hand_of p (owed j)) p (after_claim (f.seats p) c (owed j)) mv.3)
  core_sees p (finishing c d) f g law mv = (mv.0, (mv.1.0, mv.1.1, core_changes f g c (done d) p (after_finish (f.seats p) mv.1.0) mv.1.2))
  core_sees p (taking d) f g law mv = let v : View D = f.seats p in let c : ℕ = cell_of p v.handed in
      (mv.0, ap settled mv.3, core_changes f g c (take_by p) p (after_take v c) mv.4)
  core_sees p freeing f g law mv = let v : View D = f.seats p in
      core_same f g (cell_of p (v.handed - 1)) free p (at_phase v Rest) mv.2 (ap settled (sym (finds_cell p freeing f g law mv))) refl
  core_sees p (looking c word) f g law mv = core_same f g c (f.cells c) p (after_look (f.seats p) c word) mv.3 refl refl

  -- what a seat is told of a step of its party, which is the party p of the state
  pub led : (f g : FrontState J D) (p : ℕ) (w : View D) (move : Move J D) → Lawful owed S W f → (f.seats p).number ≡ p → g.seats p ≡ w → Moves owed S W f p move g → Led owed S W (f.seats p) move w
  led f g p w move law num own mv = record {
    before = f;
    after = g;
    lawful_before = law;
    lawful_after = keeps_law p move f g law mv;
    part_before = ap f.seats num;
    part_after = ap g.seats num ∙ own;
    moves = subst (λ (q : ℕ). Moves owed S W f q move g) (sym num) mv;
  }
