-- Each event leads from a lawful state with all at rest to such a state.
use Rattle.std.proofs.Common.{◌≡◌, ℕ, ◌+◌, [], ◌∷◌, ◌++◌, length, sym, refl, ap, subst}
use mathlib.Core.Path.{fun_ext}
use Rattle.mbj_core.specs.declared.party.View.{View}
use Rattle.mbj_core.specs.declared.party.Phase.TheVariants.{Rest}
use Rattle.mbj_core.specs.Cells.{Cell, free, ready, done, hand_of, cell_of}
use Rattle.mbj_core.specs.Parties.{view, front, FrontState, with_due, with_handed, with_hand}
use Rattle.mbj_core.specs.Lawful.{Lawful}
use Rattle.mbj_core.specs.Events.{Event, post, claim, finish, collect, Answer, carried_out, returned, claimed, collected, nothing, Changes, Step}
use Rattle.mbj_core.proofs.Puts.{put, at_put, put_here, put_else}
use Rattle.mbj_core.proofs.Hands.{claims, finishes}
use Rattle.mbj_core.proofs.Posts.{posts, collects}

module _ {J D : Type 0} where
  -- every party is at rest
  abbrev pub AtRest : FrontState J D → Type 0
  AtRest f = (p : ℕ) → (f.seats p).phase ≡ Rest

  -- two states with the same cells and seats are one
  pub same_front : (f g : FrontState J D) → ((i : ℕ) → g.cells i ≡ f.cells i) → ((q : ℕ) → g.seats q ≡ f.seats q) → g ≡ f
  same_front f g cells seats = λ t. front (fun_ext {f = g.cells} {g = f.cells} cells t) (fun_ext {f = g.seats} {g = f.seats} seats t)

  pub changes_are : (f g : FrontState J D) (c : ℕ) (x : Cell J D) (p : ℕ) (v : View D) → Changes f g c x p v → g ≡ front (put f.cells c x) (put f.seats p v)
  changes_are f g c x p v ch = same_front (front (put f.cells c x) (put f.seats p v)) g
      (λ i. at_put f.cells c x (λ j y. g.cells j ≡ y) i ch.cell (λ ne. ch.other_cells i ne))
      (λ q. at_put f.seats p v (λ r y. g.seats r ≡ y) q ch.party (λ ne. ch.other_parties q ne))

  pub put_changes : (f : FrontState J D) (c : ℕ) (x : Cell J D) (p : ℕ) (v : View D) → Changes f (front (put f.cells c x) (put f.seats p v)) c x p v
  put_changes f c x p v = record {
    cell = put_here f.cells c x;
    other_cells = λ i ne. put_else f.cells c i x ne;
    party = put_here f.seats p v;
    other_parties = λ q ne. put_else f.seats p q v ne;
  }

  rests : (f g : FrontState J D) (c : ℕ) (x : Cell J D) (p : ℕ) (v : View D) → Changes f g c x p v → v.phase ≡ Rest → AtRest f → AtRest g
  rests f g c x p v ch r all q = subst (λ (h : FrontState J D). (h.seats q).phase ≡ Rest) (sym (changes_are f g c x p v ch)) (at_put f.seats p v (λ r y. y.phase ≡ Rest) q r (λ _. all q))

module _ {J D : Type 0} (owed : J → D) (submitters workers : ℕ) where
  abbrev pub Sound : FrontState J D → Type 0
  Sound f = AtRest f × Lawful owed submitters workers f

  changed : (f g : FrontState J D) (c : ℕ) (x : Cell J D) (p : ℕ) (v w : View D) → Changes f g c x p v → w ≡ v → v.phase ≡ Rest → AtRest f → Lawful owed submitters workers (front (put f.cells c x) (put f.seats p w)) → Sound g
  changed f g c x p v w ch same r all law = (
    rests f g c x p v ch r all,
    subst (Lawful owed submitters workers) (sym (changes_are f g c x p v ch)) (subst (λ (u : View D). Lawful owed submitters workers (front (put f.cells c x) (put f.seats p u))) same law),
  )

  pub step_sound : (f g : FrontState J D) (e : Event J D) (a : Answer J D) → Step owed submitters workers f e a g → Sound f → Sound g
  step_sound f g (post s j) carried_out step ok =
      let v : View D = f.seats s in
      changed f g (cell_of s (length v.due)) (ready j) s (with_due v (v.due ++ owed j ∷ [])) (view v.number Rest (v.due ++ owed j ∷ []) v.handed v.hand v.looks) step.2
      (ap (λ st. view v.number st (v.due ++ owed j ∷ []) v.handed v.hand v.looks) (sym (ok.0 s))) (ok.0 s) ok.0
      (posts owed submitters workers f s j v.looks ok.1 step.0 (ok.0 s) step.1).1
  step_sound f g (post s j) (returned i) step ok = subst Sound (sym step.3) ok
  step_sound f g (post s j) (claimed i) step ok = absurd step
  step_sound f g (post s j) (collected d) step ok = absurd step
  step_sound f g (post s j) nothing step ok = absurd step
  step_sound f g (claim p c) (claimed j) step ok =
      let v : View D = f.seats p in let w : View D = with_hand v (v.hand ++ (c, owed j) ∷ []) in
      changed f g c (hand_of p (owed j)) p w w step.3 refl (ok.0 p) ok.0 (claims owed submitters workers f c p j v.looks ok.1 step.0 step.1 step.2)
  step_sound f g (claim p c) nothing step ok = subst Sound (sym step.3) ok
  step_sound f g (claim p c) carried_out step ok = absurd step
  step_sound f g (claim p c) (returned i) step ok = absurd step
  step_sound f g (claim p c) (collected d) step ok = absurd step
  step_sound f g (finish p c d) carried_out step ok =
      let v : View D = f.seats p in let w : View D = with_hand v step.1.0 in
      changed f g c (done d) p w w step.1.2 refl (ok.0 p) ok.0 (finishes owed submitters workers f c p d step.1.0 v.looks ok.1 step.0 step.1.1)
  step_sound f g (finish p c d) (returned i) step ok = absurd step
  step_sound f g (finish p c d) (claimed i) step ok = absurd step
  step_sound f g (finish p c d) (collected e) step ok = absurd step
  step_sound f g (finish p c d) nothing step ok = absurd step
  step_sound f g (collect s) (collected d) step ok =
      let v : View D = f.seats s in
      changed f g (cell_of s v.handed) free s (with_handed v (v.handed + 1)) (view v.number Rest v.due (v.handed + 1) v.hand v.looks) step.2
      (ap (λ st. view v.number st v.due (v.handed + 1) v.hand v.looks) (sym (ok.0 s))) (ok.0 s) ok.0
      (collects owed submitters workers f s d v.looks ok.1 step.0 (ok.0 s) step.1).1
  step_sound f g (collect s) nothing step ok = subst Sound (sym step.2) ok
  step_sound f g (collect s) carried_out step ok = absurd step
  step_sound f g (collect s) (returned i) step ok = absurd step
  step_sound f g (collect s) (claimed i) step ok = absurd step
