-- Each step on the table is allowed: it keeps the rule, and tells what it did.
use Rattle.std.proofs.Common.{◌≡◌, ℕ, ◌+◌, ◌-◌, ◌*◌, ◌<◌, false, eqb, List, [], ◌∷◌, length, get_or, set, sym, refl, ap, ◌∙◌, subst, arith}
use Rattle.std.specs.Prelude.{slice_get}
use mathlib.Core.Option.{none, some}
use lib.ListN.{get_elem?}
use prog.Atomic.{either}
use Rattle.atomic_table.specs.Table.{State, Act, keeps, takes, gives, Valid, stepped, carried_after, step, Allows}
use Rattle.atomic_table.proofs.Lists.{exchanged}
use Rattle.mbj_core.specs.declared.cells.TheConstants.{SUBMITTER_CELLS}
use Rattle.mbj_core.specs.declared.party.View.{View}
use Rattle.mbj_core.specs.declared.party.Phase.TheVariants.{Rest, Opening, Emptying}
use Rattle.mbj_core.specs.Cells.{Cell, free, ready, done, open_by, hand_of, take_by, word_of, cell_of}
use Rattle.mbj_core.specs.Parties.{FrontState, front}
use Rattle.mbj_core.specs.Lawful.{Lawful}
use Rattle.mbj_core.proofs.Puts.{put, put_here, put_else}
use Rattle.mbj_core.proofs.Fitting.{Is, each_number}
use Rattle.mbj_core.proofs.Posts.{near}
use Rattle.mbj_core.proofs.Phases.{done_there}
use Rattle.mbj_core.proofs.Steps.{put_changes}
use Rattle.mbj_front.specs.declared.slot.Slot.{Slot}
use Rattle.mbj_front.specs.declared.slot.Slot.TheVariants.{Blank, Task, Made}
use Rattle.mbj_front.specs.declared.place.Place.{Place}
use Rattle.mbj_front.specs.Rule.{home_of, place, Shows, Rule}
use Rattle.mbj_front.specs.Views.{after_look, after_claim, after_finish, after_publish, after_take, at_phase}
use Rattle.mbj_front.specs.Moves.{opening, publishing, claiming, finishing, taking, freeing, looking, Move, Moves, Led}
use Rattle.mbj_front.specs.Looks.{StepsBy}
use Rattle.mbj_front.specs.Inside.Plays.{Mine, LookTells, ClaimTells, FinishTells, OpenTells, PublishTells, TakeTells, FreeTells}
use Rattle.mbj_front.proofs.Shown.{table, seated, shows_view, shows_cell}
use Rattle.mbj_front.proofs.MoveLaws.{last_cell, after, keeps_law, finds_cell, led}
use Rattle.mbj_front.proofs.Looked.{shows_step, looked, claimed, taken_at}

module _ {D : Type 0} where
  abbrev first_result : D → List (ℕ × D) → D
  first_result d [] = d
  first_result d (x ∷ xs) = x.1

  abbrev others : List (ℕ × D) → List (ℕ × D)
  others [] = []
  others (x ∷ xs) = xs

  same_first : (c : ℕ) (d e : D) (a b : List (ℕ × D)) → (c, d) ∷ a ≡ (c, e) ∷ b → (d ≡ e) × (a ≡ b)
  same_first c d e a b h = (ap (first_result d) h, ap others h)

module _ {J D : Type 0} where
  abbrev job_in : J → List (ℕ × Slot J D) → J
  job_in j [] = j
  job_in j (x ∷ xs) = of_slot j x.1
    where
      of_slot : J → Slot J D → J
      of_slot j Blank = j
      of_slot j (Task k) = k
      of_slot j (Made d) = j

  same_job : (j k : J) (c : ℕ) (a b : List (ℕ × Slot J D)) → (c, Task j) ∷ a ≡ (c, Task k) ∷ b → j ≡ k
  same_job j k c a b h = ap (job_in j) h

module _ {J D : Type 0} (owed : J → D) (S W : ℕ) where
  abbrev St : Type 0
  St = State (Slot J D) (Place D)

  -- the step on the word i, which becomes new, leads on from s
  abbrev Goes : St → ℕ → Mine J D → ℕ → ℕ → (Mine J D → Mine J D → Type 0) → Type 0
  Goes s id m i new then = (w : Place D) × (a : Act (Slot J D)) × Valid s.homes m.1 a × Rule owed S W (stepped s i new id m.1 w a) × then m (w, carried_after m.1 a)

  -- it is enough to show it of the state's own party
  at_place : (s : St) (f : FrontState J D) (id : ℕ) (m : Mine J D) (i new : ℕ) (then : Mine J D → Mine J D → Type 0) (Pre : Place D → Type 0) (h : Shows S W s f) → get_elem? s.views id ≡ some m.0 → m.0.root ≡ false → Pre m.0
      → ((p : ℕ) → p < h.cut → Pre (place S W (f.seats p)) → Goes s (p + 1) (place S W (f.seats p), m.1) i new then) → Goes s id m i new then
  at_place s f id m i new then Pre h at live pre go = let t = seated S W s f id m.0 h at live in
      subst (λ (x : ℕ × Place D). Goes s x.0 (x.1, m.1) i new then) (λ k. (t.1 k, t.2 k)) (go t.0 t.3 (subst Pre (sym t.2) pre))

  -- one cell and one part change
  shows_both : (s : St) (f : FrontState J D) (p c new : ℕ) (x : Cell J D) (w : View D) (h : Shows S W s f) → p < h.cut → c < SUBMITTER_CELLS * S → new ≡ word_of x → w.number ≡ p
      → Lawful owed S W (after f c x p w) → Rule owed S W (table (set s.words c new) (set s.homes c (home_of x)) (set s.views (p + 1) (place S W w)))
  shows_both s f p c new x w h cut less is num law = (after f c x p w, shows_step owed S W s f p c new x w h cut less is num, law)

  -- a step that leads by a move keeps the rule
  keeps_rule : (s : St) (f : FrontState J D) (p c : ℕ) (held : List (ℕ × Slot J D)) (move : Move J D) (word : ℕ) (act : Act (Slot J D)) (v : View D)
      → (by : StepsBy owed S W s f p c held move word act v) → Lawful owed S W f → Rule owed S W (stepped s c word (p + 1) held (place S W v) act)
  keeps_rule s f p c held move word act v by law = (by.after, by.shows, keeps_law owed S W p move f by.after law by.moves)

  -- a load, or a compare-exchange that failed
  looks_on : (s : St) (f : FrontState J D) (p c slots a b : ℕ) (carried : List (ℕ × Slot J D)) (h : Shows S W s f) → Lawful owed S W f → p < h.cut → c < SUBMITTER_CELLS * S
      → Goes s (p + 1) (place S W (f.seats p), carried) c (get_or s.words c 0) (λ m n. LookTells owed (step slots c a b none) m (get_or s.words c 0) n)
  looks_on s f p c slots a b carried h law cut less = let r : ℕ = get_or s.words c 0 in let w : View D = after_look (f.seats p) c r in
      let by = looked owed S W s f p c carried h cut less in (
        place S W w,
        keeps,
        by.valid,
        keeps_rule s f p c carried (looking c r) r keeps w by law,
        (refl, led owed S W f by.after p w (looking c r) law (h.each_number p) by.moves.3.party by.moves),
      )

  pub scans : (slots id c : ℕ) (m : Mine J D) → m.0.root ≡ false → c < SUBMITTER_CELLS * m.0.submitters → Allows (Rule owed S W) slots id m c (λ n. n) (LookTells owed (step slots c 0 0 none) m)
  scans slots id c m live less s rule wide at _ = let f = rule.0 in let h = rule.1 in let r : ℕ = get_or s.words c 0 in
      at_place s f id m c r (λ m n. LookTells owed (step slots c 0 0 none) m r n) (λ x. c < SUBMITTER_CELLS * x.submitters) h at live less
      (λ p cut less. looks_on s f p c slots 0 0 m.1 h rule.2 cut less)

  pub tries_claim : (slots id c new : ℕ) (m : Mine J D) → m.0.root ≡ false → c < SUBMITTER_CELLS * m.0.submitters → new ≡ 4 + 3 * m.0.view.number
      → Allows (Rule owed S W) slots id m c (λ n. either (eqb n 1) new n) (ClaimTells owed (step slots c 1 new none) m)
  tries_claim slots id c new m live less is s rule wide at _ = let f = rule.0 in let h = rule.1 in let law = rule.2 in let r : ℕ = get_or s.words c 0 in
      let then : Mine J D → Mine J D → Type 0 = λ m n. ClaimTells owed (step slots c 1 new none) m r n in
      at_place s f id m c (either (eqb r 1) new r) then (λ x. (c < SUBMITTER_CELLS * x.submitters) × (new ≡ 4 + 3 * x.view.number)) h at live (less, is)
      (λ p cut pre. exchanged r 1 new (λ z. Goes s (p + 1) (place S W (f.seats p), m.1) c z then)
      (λ hit.
      let claim = (claimed owed S W s f p c m.1 h cut pre.0).ready hit in let j = claim.0 in let by = claim.1 in
      let w : View D = after_claim (f.seats p) c (owed j) in let word : ℕ = 4 + 3 * p in
      let is : word ≡ new = sym (pre.1 ∙ ap (λ (q : ℕ). 4 + 3 * q) (h.each_number p)) in (
        place S W w,
        takes c (Task j),
        by.valid,
        subst (λ (n : ℕ). Rule owed S W (stepped s c n (p + 1) m.1 (place S W w) (takes c (Task j)))) is
            (keeps_rule s f p c m.1 (claiming c j) word (takes c (Task j)) w by law),
        ((λ _. (j, (refl, led owed S W f by.after p w (claiming c j) law (h.each_number p) by.moves.3.party by.moves))), λ ne. absurd (ne hit)),
      ))
      (λ miss. let look = looks_on s f p c slots 1 new m.1 h law cut pre.0 in (look.0, look.1, look.2, look.3, ((λ e. absurd (miss e)), λ _. look.4))))

  pub finishes_first : (slots id c old : ℕ) (m : Mine J D) (d : D) (hand : List (ℕ × D)) (more : List (ℕ × Slot J D)) → m.0.root ≡ false → m.0.view.hand ≡ (c, d) ∷ hand → m.1 ≡ (c, Made d) ∷ more → old ≡ 4 + 3 * m.0.view.number
      → Allows (Rule owed S W) slots id m c (λ n. either (eqb n old) 2 n) (FinishTells owed (step slots c old 2 none) m)
  finishes_first slots id c old m d hand more live has had is s rule wide at _ = let f = rule.0 in let h = rule.1 in let law = rule.2 in let r : ℕ = get_or s.words c 0 in
      let then : Mine J D → Mine J D → Type 0 = λ m n. FinishTells owed (step slots c old 2 none) m r n in
      at_place s f id m c (either (eqb r old) 2 r) then (λ x. (x.view.hand ≡ (c, d) ∷ hand) × (old ≡ 4 + 3 * x.view.number)) h at live (has, is)
      (λ p cut pre.
      let num = h.each_number p in let v : View D = f.seats p in let lp : p < S + W = omega (arith, h.few) in let x : Cell J D = done d in let w : View D = after_finish v hand in
      let there = law.in_hand p 0 c d (ap (λ (l : List (ℕ × D)). slice_get l 0) pre.0) in
      let hit : r ≡ old = h.each_word c there.0 ∙ ap word_of there.1 ∙ ap (λ (q : ℕ). 4 + 3 * q) (sym num) ∙ sym pre.1 in
      let g : FrontState J D = after f c x p w in let move : Move J D = finishing c d in
      let mv : Moves owed S W f p move g = (lp, (hand, ([], hand, pre.0, refl), put_changes f c x p w)) in
      exchanged r old 2 (λ z. Goes s (p + 1) (place S W (f.seats p), m.1) c z then)
      (λ _. (
        place S W w,
        gives,
        tt,
        subst (λ (l : List (ℕ × Slot J D)). Rule owed S W (stepped s c 2 (p + 1) l (place S W w) gives)) (sym had)
            (shows_both s f p c 2 x w h cut there.0 refl num (keeps_law owed S W p move f g law mv)),
        λ e hand' has'. let same = same_first c d e hand hand' (sym pre.0 ∙ has') in
            subst (λ (z : D × List (ℕ × D)). ◌≡◌ {A = Mine J D} (place S W w, carried_after m.1 gives) (place S W (after_finish v z.1), carried_after m.1 gives) × Led owed S W v (finishing c z.0) (after_finish v z.1)) (λ t. (same.0 t, same.1 t))
            (refl, led owed S W f g p w move law num (put_here f.seats p w) mv),
      ))
      (λ miss. absurd (miss hit)))

  pub opens_next : (slots id c new : ℕ) (m : Mine J D) → m.0.root ≡ false → m.0.view.number < m.0.submitters → c ≡ cell_of m.0.view.number (length m.0.view.due) → new ≡ 3 + 3 * m.0.view.number → m.0.view.phase ≡ Rest → length m.0.view.due < m.0.view.handed + SUBMITTER_CELLS
      → Allows (Rule owed S W) slots id m c (λ n. either (eqb n 0) new n) (OpenTells owed (step slots c 0 new none) m)
  opens_next slots id c new m live less c_is is at_rest room s rule wide at _ = let f = rule.0 in let h = rule.1 in let law = rule.2 in let r : ℕ = get_or s.words c 0 in
      let then : Mine J D → Mine J D → Type 0 = λ m n. OpenTells owed (step slots c 0 new none) m r n in
      at_place s f id m c (either (eqb r 0) new r) then
      (λ x. (x.view.number < x.submitters) × (c ≡ cell_of x.view.number (length x.view.due)) × (new ≡ 3 + 3 * x.view.number) × (x.view.phase ≡ Rest) × (length x.view.due < x.view.handed + SUBMITTER_CELLS)) h at live (less, c_is, is, at_rest, room)
      (λ p cut pre.
      let num = h.each_number p in let v : View D = f.seats p in let x : Cell J D = open_by p in let w : View D = at_phase v Opening in
      let ls : p < S = subst (λ (q : ℕ). q < S) num pre.0 in
      let here : cell_of p (length v.due) ≡ c = sym (pre.1 ∙ ap (λ (q : ℕ). cell_of q (length v.due)) num) in
      let g : FrontState J D = after f c x p w in
      let mv : Moves owed S W f p opening g = subst (λ (k : ℕ). Moves owed S W f p opening (after f k x p w)) here (ls, pre.3, pre.4, put_changes f (cell_of p (length v.due)) x p w) in
      let empty : f.cells c ≡ free = ap f.cells (sym here) ∙ finds_cell owed S W p opening f g law mv in let inner : c < SUBMITTER_CELLS * S = subst (λ (k : ℕ). k < SUBMITTER_CELLS * S) here (near S p (length v.due) ls) in
      exchanged r 0 new (λ z. Goes s (p + 1) (place S W (f.seats p), m.1) c z then)
      (λ _. (
        place S W w,
        takes c Blank,
        h.each_home c inner ∙ ap (λ (y : Cell J D). some (home_of y)) empty,
        shows_both s f p c new x w h cut inner (pre.2 ∙ ap (λ (q : ℕ). 3 + 3 * q) num) num (keeps_law owed S W p opening f g law mv),
        (refl, led owed S W f g p w opening law num (put_here f.seats p w) mv),
      ))
      (λ miss. absurd (miss (h.each_word c inner ∙ ap word_of empty))))

  pub publishes_job : (slots id c old : ℕ) (m : Mine J D) (j : J) (more : List (ℕ × Slot J D)) → m.0.root ≡ false → m.0.view.number < m.0.submitters → c ≡ cell_of m.0.view.number (length m.0.view.due) → old ≡ 3 + 3 * m.0.view.number → m.0.view.phase ≡ Opening → m.1 ≡ (c, Task j) ∷ more
      → Allows (Rule owed S W) slots id m c (λ n. either (eqb n old) 1 n) (PublishTells owed (step slots c old 1 none) m)
  publishes_job slots id c old m j more live less c_is is filling had s rule wide at _ = let f = rule.0 in let h = rule.1 in let law = rule.2 in let r : ℕ = get_or s.words c 0 in
      let then : Mine J D → Mine J D → Type 0 = λ m n. PublishTells owed (step slots c old 1 none) m r n in
      at_place s f id m c (either (eqb r old) 1 r) then
      (λ x. (x.view.number < x.submitters) × (c ≡ cell_of x.view.number (length x.view.due)) × (old ≡ 3 + 3 * x.view.number) × (x.view.phase ≡ Opening)) h at live (less, c_is, is, filling)
      (λ p cut pre.
      let num = h.each_number p in let v : View D = f.seats p in let x : Cell J D = ready j in let w : View D = after_publish v (owed j) in
      let ls : p < S = subst (λ (q : ℕ). q < S) num pre.0 in
      let here : cell_of p (length v.due) ≡ c = sym (pre.1 ∙ ap (λ (q : ℕ). cell_of q (length v.due)) num) in
      let g : FrontState J D = after f c x p w in let move : Move J D = publishing j in
      let mv : Moves owed S W f p move g = subst (λ (k : ℕ). Moves owed S W f p move (after f k x p w)) here (ls, pre.3, put_changes f (cell_of p (length v.due)) x p w) in
      let stands : f.cells c ≡ open_by p = ap f.cells (sym here) ∙ finds_cell owed S W p move f g law mv in let inner : c < SUBMITTER_CELLS * S = subst (λ (k : ℕ). k < SUBMITTER_CELLS * S) here (near S p (length v.due) ls) in
      exchanged r old 1 (λ z. Goes s (p + 1) (place S W (f.seats p), m.1) c z then)
      (λ _. (
        place S W w,
        gives,
        tt,
        subst (λ (l : List (ℕ × Slot J D)). Rule owed S W (stepped s c 1 (p + 1) l (place S W w) gives)) (sym had)
            (shows_both s f p c 1 x w h cut inner refl num (keeps_law owed S W p move f g law mv)),
        λ k had'. subst (λ (i : J). ◌≡◌ {A = Mine J D} (place S W w, carried_after m.1 gives) (place S W (after_publish v (owed i)), carried_after m.1 gives) × Led owed S W v (publishing i) (after_publish v (owed i)))
            (same_job j k c more _ (sym had ∙ had')) (refl, led owed S W f g p w move law num (put_here f.seats p w) mv),
      ))
      (λ miss. absurd (miss (h.each_word c inner ∙ ap word_of stands ∙ ap (λ (q : ℕ). 3 + 3 * q) (sym num) ∙ sym pre.2))))

  pub tries_take : (slots id c new : ℕ) (m : Mine J D) → m.0.root ≡ false → m.0.view.number < m.0.submitters → c ≡ cell_of m.0.view.number m.0.view.handed → new ≡ 5 + 3 * m.0.view.number → m.0.view.phase ≡ Rest → m.0.view.handed < length m.0.view.due
      → Allows (Rule owed S W) slots id m c (λ n. either (eqb n 2) new n) (TakeTells owed (step slots c 2 new none) m)
  tries_take slots id c new m live less c_is is at_rest some_out s rule wide at _ = let f = rule.0 in let h = rule.1 in let law = rule.2 in let r : ℕ = get_or s.words c 0 in
      let then : Mine J D → Mine J D → Type 0 = λ m n. TakeTells owed (step slots c 2 new none) m r n in
      at_place s f id m c (either (eqb r 2) new r) then
      (λ x. (x.view.number < x.submitters) × (c ≡ cell_of x.view.number x.view.handed) × (new ≡ 5 + 3 * x.view.number) × (x.view.phase ≡ Rest) × (x.view.handed < length x.view.due)) h at live (less, c_is, is, at_rest, some_out)
      (λ p cut pre.
      let num = h.each_number p in let v : View D = f.seats p in let x : Cell J D = take_by p in let w : View D = after_take v c in
      let ls : p < S = subst (λ (q : ℕ). q < S) num pre.0 in
      let here : cell_of p v.handed ≡ c = sym (pre.1 ∙ ap (λ (q : ℕ). cell_of q v.handed) num) in
      let inner : c < SUBMITTER_CELLS * S = subst (λ (k : ℕ). k < SUBMITTER_CELLS * S) here (near S p v.handed ls) in
      exchanged r 2 new (λ z. Goes s (p + 1) (place S W (f.seats p), m.1) c z then)
      (λ hit.
      let take = (taken_at owed S W s f p c m.1 h law cut ls pre.3 pre.4 here).done hit in let d = take.0 in let by = take.1 in
      let word : ℕ = 5 + 3 * p in let is : word ≡ new = sym (pre.2 ∙ ap (λ (q : ℕ). 5 + 3 * q) num) in (
        place S W w,
        takes c (Made d),
        by.valid,
        subst (λ (n : ℕ). Rule owed S W (stepped s c n (p + 1) m.1 (place S W w) (takes c (Made d)))) is
            (keeps_rule s f p c m.1 (taking d) word (takes c (Made d)) w by law),
        ((λ _. (d, (finds_cell owed S W p (taking d) f by.after law by.moves).1, (refl, led owed S W f by.after p w (taking d) law num (by.moves.4.party ∙ ap (after_take v) here) by.moves))), λ ne. absurd (ne hit)),
      ))
      (λ miss. let look = looks_on s f p c slots 2 new m.1 h law cut inner in (look.0, look.1, look.2, look.3, ((λ e. absurd (miss e)), λ _. look.4))))

  pub frees_cell : (slots id c old : ℕ) (m : Mine J D) (more : List (ℕ × Slot J D)) → m.0.root ≡ false → m.0.view.number < m.0.submitters → c ≡ cell_of m.0.view.number (m.0.view.handed + (SUBMITTER_CELLS - 1)) → old ≡ 5 + 3 * m.0.view.number → m.0.view.phase ≡ Emptying → m.1 ≡ (c, Blank) ∷ more
      → Allows (Rule owed S W) slots id m c (λ n. either (eqb n old) 0 n) (FreeTells owed (step slots c old 0 none) m)
  frees_cell slots id c old m more live less c_is is emptying had s rule wide at _ = let f = rule.0 in let h = rule.1 in let law = rule.2 in let r : ℕ = get_or s.words c 0 in
      let then : Mine J D → Mine J D → Type 0 = λ m n. FreeTells owed (step slots c old 0 none) m r n in
      at_place s f id m c (either (eqb r old) 0 r) then
      (λ x. (x.view.number < x.submitters) × (c ≡ cell_of x.view.number (x.view.handed + (SUBMITTER_CELLS - 1))) × (old ≡ 5 + 3 * x.view.number) × (x.view.phase ≡ Emptying)) h at live (less, c_is, is, emptying)
      (λ p cut pre.
      let num = h.each_number p in let v : View D = f.seats p in let x : Cell J D = free in let w : View D = at_phase v Rest in
      let ls : p < S = subst (λ (q : ℕ). q < S) num pre.0 in
      let here : cell_of p (v.handed - 1) ≡ c = last_cell p v.handed (law.emptied p pre.3) ∙ sym (pre.1 ∙ ap (λ (q : ℕ). cell_of q (v.handed + (SUBMITTER_CELLS - 1))) num) in
      let g : FrontState J D = after f c x p w in
      let mv : Moves owed S W f p freeing g = subst (λ (k : ℕ). Moves owed S W f p freeing (after f k x p w)) here (ls, pre.3, put_changes f (cell_of p (v.handed - 1)) x p w) in
      let stands : f.cells c ≡ take_by p = ap f.cells (sym here) ∙ finds_cell owed S W p freeing f g law mv in let inner : c < SUBMITTER_CELLS * S = subst (λ (k : ℕ). k < SUBMITTER_CELLS * S) here (near S p (v.handed - 1) ls) in
      exchanged r old 0 (λ z. Goes s (p + 1) (place S W (f.seats p), m.1) c z then)
      (λ _. (
        place S W w,
        gives,
        tt,
        subst (λ (l : List (ℕ × Slot J D)). Rule owed S W (stepped s c 0 (p + 1) l (place S W w) gives)) (sym had)
            (shows_both s f p c 0 x w h cut inner refl num (keeps_law owed S W p freeing f g law mv)),
        (refl, led owed S W f g p w freeing law num (put_here f.seats p w) mv),
      ))
      (λ miss. absurd (miss (h.each_word c inner ∙ ap word_of stands ∙ ap (λ (q : ℕ). 5 + 3 * q) (sym num) ∙ sym pre.2))))
