-- A post and a collect lead from a lawful state to a lawful one.
use Rattle.std.proofs.Common.{◌≡◌, ◌≢◌, ℕ, ◌+◌, ◌*◌, ◌<◌, ◌≤◌, List, [], ◌∷◌, ◌++◌, length, sym, refl, ap, ◌∙◌, subst, arith, length-append}
use Rattle.std.specs.Prelude.{Some, slice_get}
use Rattle.std.proofs.lemmas.Option.{slice_get_within}
use mathlib.Core.Logic.{dite}
use native.Mathlib.Decide.{ℕ_discrete}
use Rattle.mbj_core.specs.declared.party.View.{View}
use Rattle.mbj_core.specs.declared.party.Phase.{Phase}
use Rattle.mbj_core.specs.declared.party.Phase.TheVariants.{Rest, Emptying}
use Rattle.mbj_core.specs.declared.cells.TheConstants.{SUBMITTER_CELLS}
use Rattle.mbj_core.specs.Cells.{Cell, free, ready, done, open_by, hand_of, take_by, cell_of}
use Rattle.mbj_core.specs.Parties.{view, front, FrontState, new_party}
use Rattle.mbj_core.specs.Lawful.{Lawful}
use Rattle.mbj_core.proofs.Fitting.{rest_open, rest_take, Fits, free_there, lawful, each_number}
use Rattle.mbj_core.proofs.Puts.{put, at_put, put_here, put_else}
use Rattle.mbj_core.proofs.Entries.{at_longer, at_middle}
use Rattle.mbj_core.proofs.Hands.{is_hand, not_in_hand}

-- two submitters have no cell in common, and two numbers in one turn have two cells
pub one_owner : (s t n m : ℕ) → cell_of s n ≡ cell_of t m → s ≡ t
one_owner s t n m e = omega arith

pub one_number : (s h n m : ℕ) → h ≤ n → n < h + SUBMITTER_CELLS → h ≤ m → m < h + SUBMITTER_CELLS → cell_of s n ≡ cell_of s m → n ≡ m
one_number s h n m a b c d e = omega arith

pub near : (S s n : ℕ) → s < S → cell_of s n < SUBMITTER_CELLS * S
near S s n l = omega arith

module _ {J D : Type 0} (owed : J → D) where
  -- the part of the submitter p changes, but not its hand, and one of its cells
  pub reposts : (S W : ℕ) (f : FrontState J D) (p m : ℕ) (x : Cell J D) (phase : Phase) (due : List D) (handed : ℕ) (looks : List (ℕ × ℕ)) → Lawful owed S W f → p < S
      → handed ≤ length due → length due ≤ handed + SUBMITTER_CELLS → (phase ≢ Rest → length due < handed + SUBMITTER_CELLS) → (phase ≡ Emptying → 1 ≤ handed) → is_hand (f.cells (cell_of p m)) ≡ 0 → is_hand x ≡ 0
      → let w : View D = view (f.seats p).number phase due handed (f.seats p).hand looks in
      ((n : ℕ) → handed ≤ n → n < handed + SUBMITTER_CELLS → Fits owed w p n (put f.cells (cell_of p m) x (cell_of p n)))
      → Lawful owed S W (front (put f.cells (cell_of p m) x) (put f.seats p w))
  reposts S W f p m x phase due handed looks law less a b c some quiet quiet' numbers = let w : View D = view (f.seats p).number phase due handed (f.seats p).hand looks in let i : ℕ = cell_of p m in lawful owed S W _ (record {
    behind = λ s. at_put f.seats p w (λ q y. y.handed ≤ length y.due) s a (λ _. law.behind s);
    within = λ s. at_put f.seats p w (λ q y. length y.due ≤ y.handed + SUBMITTER_CELLS) s b (λ _. law.within s);
    spare = λ s. at_put f.seats p w (λ q y. y.phase ≢ Rest → length y.due < y.handed + SUBMITTER_CELLS) s c (λ _. law.spare s);
    emptied = λ s. at_put f.seats p w (λ q y. y.phase ≡ Emptying → 1 ≤ y.handed) s some (λ _. law.emptied s);
    each_number = λ s n l. at_put f.seats p w (λ q y. y.handed ≤ n → n < y.handed + SUBMITTER_CELLS → Fits owed y q n (put f.cells i x (cell_of q n))) s (λ lo hi. numbers n lo hi)
        (λ other lo hi. subst (Fits owed (f.seats s) s n) (sym (put_else f.cells i (cell_of s n) x (λ e. other (one_owner s p n m e)))) (each_number owed S W f law s n l lo hi));
    in_hand = λ q k j d. at_put f.seats p w (λ q y. slice_get y.hand k ≡ Some (j, d) → (j < SUBMITTER_CELLS * S) × (put f.cells i x j ≡ hand_of q d)) q (mine p k j d) (λ _. mine q k j d);
    held = λ q j d l. at_put f.cells i x (λ j y. j < SUBMITTER_CELLS * S → y ≡ hand_of q d → (k : ℕ) × (slice_get (put f.seats p w q).hand k ≡ Some (j, d))) j
        (λ _ h. absurd (not_in_hand x q d quiet' h))
        (λ _ l h. at_put f.seats p w (λ r y. r ≡ q → (k : ℕ) × (slice_get y.hand k ≡ Some (j, d))) q (λ e. law.held p j d l (subst (λ (r : ℕ). f.cells j ≡ hand_of r d) (sym e) h)) (λ _ _. law.held q j d l h) refl) l;
    once = λ q k l j d e. at_put f.seats p w (λ q y. slice_get y.hand k ≡ Some (j, d) → slice_get y.hand l ≡ Some (j, e) → k ≡ l) q (law.once p k l j d e) (λ _. law.once q k l j d e);
    posters = λ q far. at_put f.seats p w (λ q y. S ≤ q → (y.due ≡ []) × (y.phase ≡ Rest)) q (λ far. absurd (omega arith)) (λ _. law.posters q) far;
    nobody = λ q far. at_put f.seats p w (λ q y. S + W ≤ q → y ≡ new_party q) q (λ far. absurd (omega arith)) (λ _. law.nobody q) far;
  })
    where
      mine : (q k j : ℕ) (d : D) → slice_get (f.seats q).hand k ≡ Some (j, d) → (j < SUBMITTER_CELLS * S) × (put f.cells (cell_of p m) x j ≡ hand_of q d)
      mine q k j d at = let was = law.in_hand q k j d at in (was.0, put_else f.cells (cell_of p m) j x (λ e. not_in_hand (f.cells j) q d (ap (λ (t : ℕ). is_hand (f.cells t)) e ∙ quiet) was.1) ∙ was.1)

  posted_fits : (v : View D) (d : D) (looks : List (ℕ × ℕ)) (s n : ℕ) (y : Cell J D) → Fits owed v s n y → v.phase ≢ Emptying → n ≢ length v.due → Fits owed (view v.number Rest (v.due ++ d ∷ []) v.handed v.hand looks) s n y
  posted_fits v d looks s n free h r ne = (omega (arith, h.0, length-append v.due (d ∷ [])), (λ e. absurd (rest_open e)), λ e. absurd (rest_take e))
  posted_fits v d looks s n (ready j) h r ne = at_longer v.due (d ∷ []) n (owed j) h
  posted_fits v d looks s n (done e) h r ne = at_longer v.due (d ∷ []) n e h
  posted_fits v d looks s n (open_by p) h r ne = absurd (ne h.0)
  posted_fits v d looks s n (hand_of p e) h r ne = at_longer v.due (d ∷ []) n e h
  posted_fits v d looks s n (take_by p) h r ne = absurd (r h.2)

  -- the cell of the next number gets a job, and the submitter is at rest
  pub fills : (S W : ℕ) (f : FrontState J D) (p : ℕ) (j : J) (looks : List (ℕ × ℕ)) → Lawful owed S W f → p < S → (f.seats p).phase ≢ Emptying → length (f.seats p).due < (f.seats p).handed + SUBMITTER_CELLS
      → let v : View D = f.seats p in let i : ℕ = cell_of p (length v.due) in
      is_hand (f.cells i) ≡ 0 → Lawful owed S W (front (put f.cells i (ready j)) (put f.seats p (view v.number Rest (v.due ++ owed j ∷ []) v.handed v.hand looks)))
  fills S W f p j looks law less at room quiet =
      let v : View D = f.seats p in let m : ℕ = length v.due in let i : ℕ = cell_of p m in let x : Cell J D = ready j in let d : D = owed j in
      let more = length-append v.due (d ∷ []) in let w : View D = view v.number Rest (v.due ++ d ∷ []) v.handed v.hand looks in let lo0 = law.behind p in
      reposts S W f p m x Rest (v.due ++ d ∷ []) v.handed looks law less (omega arith) (omega arith) (λ e. absurd (e refl)) (λ e. absurd (rest_take e)) quiet refl
      (λ n lo hi. dite (ℕ_discrete n m)
      (λ e. subst (λ (k : ℕ). Fits owed w p k (put f.cells i x (cell_of p k))) (sym e)
      (subst (Fits owed w p m) (sym (put_here f.cells i x)) (at_middle v.due [] d)))
      (λ ne. subst (Fits owed w p n) (sym (put_else f.cells i (cell_of p n) x (λ e. ne (one_number p v.handed n m lo hi lo0 room e))))
      (posted_fits v d looks p n (f.cells (cell_of p n)) (each_number owed S W f law p n less lo hi) at ne)))

  -- the submitter at rest posts a job
  pub posts : (S W : ℕ) (f : FrontState J D) (p : ℕ) (j : J) (looks : List (ℕ × ℕ)) → Lawful owed S W f → p < S → (f.seats p).phase ≡ Rest → length (f.seats p).due < (f.seats p).handed + SUBMITTER_CELLS
      → let v : View D = f.seats p in let i : ℕ = cell_of p (length v.due) in
      (f.cells i ≡ free) × Lawful owed S W (front (put f.cells i (ready j)) (put f.seats p (view v.number Rest (v.due ++ owed j ∷ []) v.handed v.hand looks)))
  posts S W f p j looks law less at_rest room =
      let v : View D = f.seats p in let m : ℕ = length v.due in let i : ℕ = cell_of p m in
      let here = free_there owed v p m (f.cells i) (each_number owed S W f law p m less (law.behind p) room) at_rest (omega arith) in
      (here, fills S W f p j looks law less (λ e. rest_take (sym at_rest ∙ e)) room (ap is_hand here))

  collected_fits : (v : View D) (looks : List (ℕ × ℕ)) (s n : ℕ) (y : Cell J D) → Fits owed v s n y → v.phase ≡ Rest → Fits owed (view v.number Rest v.due (v.handed + 1) v.hand looks) s n y
  collected_fits v looks s n free h r = (h.0, (λ e. absurd (rest_open e)), λ e. absurd (rest_take e))
  collected_fits v looks s n (ready j) h r = h
  collected_fits v looks s n (done d) h r = h
  collected_fits v looks s n (open_by p) h r = absurd (rest_open (sym r ∙ h.2))
  collected_fits v looks s n (hand_of p d) h r = h
  collected_fits v looks s n (take_by p) h r = absurd (rest_take (sym r ∙ h.2))

  -- the submitter at rest collects the result of its earliest job that is out
  pub collects : (S W : ℕ) (f : FrontState J D) (p : ℕ) (d : D) (looks : List (ℕ × ℕ)) → Lawful owed S W f → p < S → (f.seats p).phase ≡ Rest → f.cells (cell_of p (f.seats p).handed) ≡ done d
      → let v : View D = f.seats p in let i : ℕ = cell_of p v.handed in
      (slice_get v.due v.handed ≡ Some d) × Lawful owed S W (front (put f.cells i free) (put f.seats p (view v.number Rest v.due (v.handed + 1) v.hand looks)))
  collects S W f p d looks law less at_rest is =
      let v : View D = f.seats p in let h : ℕ = v.handed in let i : ℕ = cell_of p h in let x : Cell J D = free in let w : View D = view v.number Rest v.due (h + 1) v.hand looks in
      let b = law.behind p in let c = law.within p in
      let due : slice_get v.due h ≡ Some d = subst (Fits owed v p h) is (each_number owed S W f law p h less (omega arith) (omega arith)) in
      let some_out = slice_get_within v.due h d due in (
        due,
        reposts S W f p h x Rest v.due (h + 1) looks law less (omega arith) (omega arith) (λ e. absurd (e refl)) (λ e. absurd (rest_take e)) (ap is_hand is) refl
            (λ n lo hi. dite (ℕ_discrete n (h + SUBMITTER_CELLS))
            (λ e. subst (λ (k : Cell J D). Fits owed w p n k) (sym (put_here f.cells i x) ∙ ap (put f.cells i x) (let same : i ≡ cell_of p n = omega arith in same)) (omega arith, (λ e. absurd (rest_open e)), λ e. absurd (rest_take e)))
            (λ ne. subst (Fits owed w p n) (sym (put_else f.cells i (cell_of p n) x (λ e. let same = one_number p h n h (omega arith) (omega arith) (omega arith) (omega arith) e in absurd (omega arith))))
            (collected_fits v looks p n (f.cells (cell_of p n)) (each_number owed S W f law p n less (omega arith) (omega arith)) at_rest))),
      )
