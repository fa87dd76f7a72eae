-- What holds after each list of events.
use Rattle.std.proofs.Common.{◌≡◌, ◌≢◌, ℕ, zero, suc, ◌+◌, List, [], ◌∷◌, ◌++◌, take, sym, refl, ap, ◌∙◌, subst, arith, eq-eqb, ne_eqb, append-nil, append_assoc, cond}
use Rattle.std.specs.Prelude.{Some, slice_get, if◌then◌else◌, ◌==◌}
use Rattle.std.specs.List.{flat_map}
use Rattle.std.proofs.lemmas.List.{take-append-le}
use Rattle.std.proofs.lemmas.Option.{none-some, same_Some}
use mathlib.Core.Logic.{dite}
use native.Mathlib.Decide.{ℕ_discrete}
use Rattle.mbj_core.specs.declared.party.View.{View}
use Rattle.mbj_core.specs.Cells.{Cell, free, done, hand_of}
use Rattle.mbj_core.specs.Parties.{FrontState, new_front, with_hand}
use Rattle.mbj_core.specs.Lawful.{Lawful}
use Rattle.mbj_core.specs.Events.{Event, post, claim, finish, collect, Answer, carried_out, returned, claimed, collected, nothing, Changes, Step}
use Rattle.mbj_core.specs.Runs.{Run, posted_by, collected_by}
use Rattle.mbj_core.proofs.Hands.{not_in_hand}
use Rattle.mbj_core.proofs.Fitting.{rest_open, rest_take, lawful}
use Rattle.mbj_core.proofs.Posts.{collects}
use Rattle.mbj_core.proofs.Steps.{Sound, step_sound}

module _ {D : Type 0} where
  take_one_more : (n : ℕ) (l : List D) (x : D) → slice_get l n ≡ Some x → take (suc n) l ≡ take n l ++ x ∷ []
  take_one_more n [] x e = absurd (none-some x e)
  take_one_more zero (y ∷ l) x e = ap (λ (z : D). z ∷ []) (same_Some y x e)
  take_one_more (suc n) (y ∷ l) x e = ap (λ (t : List D). y ∷ t) (take_one_more n l x e)

  -- w is v with these results at the end of what is due, and these at the end of what is handed out
  abbrev pub Adds : View D → View D → List D → List D → Type 0
  Adds v w posted handed = (w.due ≡ v.due ++ posted) × (take w.handed w.due ≡ take v.handed v.due ++ handed)

  adds_nothing : (v w : View D) → w.due ≡ v.due → w.handed ≡ v.handed → Adds v w [] []
  adds_nothing v w due handed = (due ∙ sym (append-nil v.due), ap (λ (n : ℕ). take n w.due) handed ∙ ap (take v.handed) due ∙ sym (append-nil (take v.handed v.due)))

  if_same : (q s : ℕ) (l : List D) → q ≡ s → (if q == s then l else []) ≡ l
  if_same q s l e = ap (λ b. cond b l []) (eq-eqb q s e)

  if_other : (q s : ℕ) (l : List D) → q ≢ s → (if q == s then l else []) ≡ []
  if_other q s l ne = ap (λ b. cond b l []) (ne_eqb q s ne)

module _ {J D : Type 0} where
  -- a part that doesn't change what is due and handed out
  keeps : (f g : FrontState J D) (c : ℕ) (x : Cell J D) (p : ℕ) (v : View D) (q : ℕ) → Changes f g c x p v → v.due ≡ (f.seats p).due → v.handed ≡ (f.seats p).handed → Adds (f.seats q) (g.seats q) [] []
  keeps f g c x p v q ch due handed = dite (ℕ_discrete q p)
      (λ e. subst (λ (r : ℕ). Adds (f.seats r) (g.seats r) [] []) (sym e) (adds_nothing (f.seats p) (g.seats p) (ap (λ (y : View D). y.due) ch.party ∙ due) (ap (λ (y : View D). y.handed) ch.party ∙ handed)))
      (λ ne. let same = ch.other_parties q ne in adds_nothing (f.seats q) (g.seats q) (ap (λ (y : View D). y.due) same) (ap (λ (y : View D). y.handed) same))

  stands : (f g : FrontState J D) (q : ℕ) → g ≡ f → Adds (f.seats q) (g.seats q) [] []
  stands f g q e = adds_nothing (f.seats q) (g.seats q) (ap (λ (h : FrontState J D). (h.seats q).due) e) (ap (λ (h : FrontState J D). (h.seats q).handed) e)

module _ {J D : Type 0} (owed : J → D) (submitters workers : ℕ) where
  -- an event adds to what is due and handed out to q
  step_adds : (q : ℕ) (f g : FrontState J D) (e : Event J D) (a : Answer J D) → Step owed submitters workers f e a g → Sound owed submitters workers f
      → Adds (f.seats q) (g.seats q) (posted_by owed q e a) (collected_by owed q e a)
  step_adds q f g (post s j) carried_out step ok = let ch = step.2 in dite (ℕ_discrete q s)
      (λ e. subst (λ (l : List D). Adds (f.seats q) (g.seats q) l []) (sym (if_same q s (owed j ∷ []) e))
      (subst (λ (r : ℕ). Adds (f.seats r) (g.seats r) (owed j ∷ []) []) (sym e)
      (let v : View D = f.seats s in let due : (g.seats s).due ≡ v.due ++ owed j ∷ [] = ap (λ (y : View D). y.due) ch.party in
      (due, ap (λ (y : View D). take y.handed y.due) ch.party ∙ take-append-le v.handed v.due (owed j ∷ []) (ok.1.behind s) ∙ sym (append-nil (take v.handed v.due))))))
      (λ ne. subst (λ (l : List D). Adds (f.seats q) (g.seats q) l []) (sym (if_other q s (owed j ∷ []) ne))
      (let same = ch.other_parties q ne in adds_nothing (f.seats q) (g.seats q) (ap (λ (y : View D). y.due) same) (ap (λ (y : View D). y.handed) same)))
  step_adds q f g (post s j) (returned i) step ok = stands f g q step.3
  step_adds q f g (post s j) (claimed i) step ok = absurd step
  step_adds q f g (post s j) (collected d) step ok = absurd step
  step_adds q f g (post s j) nothing step ok = absurd step
  step_adds q f g (claim p c) (claimed j) step ok = keeps f g c (hand_of p (owed j)) p (with_hand (f.seats p) ((f.seats p).hand ++ (c, owed j) ∷ [])) q step.3 refl refl
  step_adds q f g (claim p c) nothing step ok = stands f g q step.3
  step_adds q f g (claim p c) carried_out step ok = absurd step
  step_adds q f g (claim p c) (returned i) step ok = absurd step
  step_adds q f g (claim p c) (collected d) step ok = absurd step
  step_adds q f g (finish p c d) carried_out step ok = keeps f g c (done d) p (with_hand (f.seats p) step.1.0) q step.1.2 refl refl
  step_adds q f g (finish p c d) (returned i) step ok = absurd step
  step_adds q f g (finish p c d) (claimed i) step ok = absurd step
  step_adds q f g (finish p c d) (collected e) step ok = absurd step
  step_adds q f g (finish p c d) nothing step ok = absurd step
  step_adds q f g (collect s) (collected d) step ok = let ch = step.2 in dite (ℕ_discrete q s)
      (λ e. subst (λ (l : List D). Adds (f.seats q) (g.seats q) [] l) (sym (if_same q s (d ∷ []) e))
      (subst (λ (r : ℕ). Adds (f.seats r) (g.seats r) [] (d ∷ [])) (sym e)
      (let v : View D = f.seats s in let next : v.handed + 1 ≡ suc v.handed = omega arith in
      let first = (collects owed submitters workers f s d v.looks ok.1 step.0 (ok.0 s) step.1).0 in
      (ap (λ (y : View D). y.due) ch.party ∙ sym (append-nil v.due), ap (λ (y : View D). take y.handed y.due) ch.party ∙ ap (λ (n : ℕ). take n v.due) next ∙ take_one_more v.handed v.due d first))))
      (λ ne. subst (λ (l : List D). Adds (f.seats q) (g.seats q) [] l) (sym (if_other q s (d ∷ []) ne))
      (let same = ch.other_parties q ne in adds_nothing (f.seats q) (g.seats q) (ap (λ (y : View D). y.due) same) (ap (λ (y : View D). y.handed) same)))
  step_adds q f g (collect s) nothing step ok = stands f g q step.2
  step_adds q f g (collect s) carried_out step ok = absurd step
  step_adds q f g (collect s) (returned i) step ok = absurd step
  step_adds q f g (collect s) (claimed i) step ok = absurd step

  run_sound : (f g : FrontState J D) (events : List (Event J D × Answer J D)) → Run owed submitters workers f events g → Sound owed submitters workers f → Sound owed submitters workers g
  run_sound f g [] run ok = subst (Sound owed submitters workers) (sym run) ok
  run_sound f g (e ∷ es) run ok = run_sound run.0 g es run.2 (step_sound owed submitters workers f run.0 e.0 e.1 run.1 ok)

  run_adds : (q : ℕ) (f g : FrontState J D) (events : List (Event J D × Answer J D)) → Run owed submitters workers f events g → Sound owed submitters workers f
      → Adds (f.seats q) (g.seats q) (flat_map (λ e. posted_by owed q e.0 e.1) events) (flat_map (λ e. collected_by owed q e.0 e.1) events)
  run_adds q f g [] run ok = stands f g q run
  run_adds q f g (e ∷ es) run ok =
      let h : FrontState J D = run.0 in let one = step_adds q f h e.0 e.1 run.1 ok in
      let more = run_adds q h g es run.2 (step_sound owed submitters workers f h e.0 e.1 run.1 ok) in
      let p : List D = posted_by owed q e.0 e.1 in let c : List D = collected_by owed q e.0 e.1 in
      let ps : List D = flat_map (λ e. posted_by owed q e.0 e.1) es in let cs : List D = flat_map (λ e. collected_by owed q e.0 e.1) es in (
        more.0 ∙ ap (λ (l : List D). l ++ ps) one.0 ∙ append_assoc (f.seats q).due p ps,
        more.1 ∙ ap (λ (l : List D). l ++ cs) one.1 ∙ append_assoc (take (f.seats q).handed (f.seats q).due) c cs,
      )

  pub new_front_sound : Sound owed submitters workers new_front
  new_front_sound = (
    λ p. refl,
    lawful owed submitters workers _ (record {
      behind = λ s. omega arith;
      within = λ s. omega arith;
      spare = λ s e. absurd (e refl);
      emptied = λ s e. absurd (rest_take e);
      each_number = λ s n l lo hi. (omega arith, (λ e. absurd (rest_open e)), λ e. absurd (rest_take e));
      in_hand = λ p k c d e. absurd (none-some (c, d) e);
      held = λ p c d l e. absurd (not_in_hand free p d refl e);
      once = λ p k l c d e h i. absurd (none-some (c, d) h);
      posters = λ p l. (refl, refl);
      nobody = λ p l. refl;
    }),
  )

  pub events_keep_the_law : (events : List (Event J D × Answer J D)) (f : FrontState J D) → Run owed submitters workers new_front events f → Lawful owed submitters workers f
  events_keep_the_law events f run = (run_sound new_front f events run new_front_sound).1

  pub results_come_in_order : (events : List (Event J D × Answer J D)) (f : FrontState J D) → Run owed submitters workers new_front events f → (s : ℕ)
      → ((f.seats s).due ≡ flat_map (λ e. posted_by owed s e.0 e.1) events) × (flat_map (λ e. collected_by owed s e.0 e.1) events ≡ take (f.seats s).handed (f.seats s).due)
  results_come_in_order events f run s = let h = run_adds s new_front f events run new_front_sound in (h.0, sym h.1)
