-- A claim, a finish and a look lead from a lawful state to a lawful one.
use Rattle.std.proofs.Common.{◌≡◌, ◌≢◌, ℕ, ◌+◌, ◌-◌, ◌*◌, ◌<◌, ◌≤◌, List, [], ◌∷◌, ◌++◌, length, sym, refl, ap, ◌∙◌, subst, ⊎_elim, arith}
use Rattle.std.specs.Prelude.{Some, slice_get}
use Rattle.mbj_core.specs.declared.party.View.{View}
use Rattle.mbj_core.specs.declared.party.Phase.TheVariants.{Rest, Opening, Emptying}
use Rattle.mbj_core.specs.declared.cells.TheConstants.{SUBMITTER_CELLS}
use Rattle.mbj_core.specs.Cells.{Cell, free, ready, done, open_by, hand_of, take_by, result_in, cell_of}
use Rattle.mbj_core.specs.Parties.{view, front, FrontState, new_party}
use Rattle.mbj_core.specs.Lawful.{Lawful}
use Rattle.mbj_core.proofs.Fitting.{Fits, lawful, each_number}
use Rattle.mbj_core.specs.Events.{Leaves}
use Rattle.mbj_core.proofs.Puts.{put, at_put, put_here, put_else}
use Rattle.mbj_core.proofs.Entries.{at_end, at_longer, at_middle, skip, in_whole, skip_apart, skip_misses, stays}

module _ {J D : Type 0} where
  -- whether the cell is in a hand: 1, and else 0
  abbrev pub is_hand : Cell J D → ℕ
  is_hand (hand_of p d) = 1
  is_hand _ = 0

  pub one_holder : (p q : ℕ) (d e : D) → ◌≡◌ {A = Cell J D} (hand_of p d) (hand_of q e) → (p ≡ q) × (d ≡ e)
  one_holder p q d e h = (cc, cc)

  pub not_in_hand : (x : Cell J D) (p : ℕ) (d : D) → is_hand x ≡ 0 → x ≢ hand_of p d
  not_in_hand x p d none e = let one : 0 ≡ 1 = sym none ∙ ap is_hand e in omega (arith, one)

module _ {J D : Type 0} (owed : J → D) where
  -- what fits does not ask for hand and looks
  pub same_fits : (v : View D) (hand : List (ℕ × D)) (looks : List (ℕ × ℕ)) (s n : ℕ) (y : Cell J D) → Fits owed v s n y → Fits owed (view v.number v.phase v.due v.handed hand looks) s n y
  same_fits v hand looks s n free h = h
  same_fits v hand looks s n (ready j) h = h
  same_fits v hand looks s n (done d) h = h
  same_fits v hand looks s n (open_by p) h = h
  same_fits v hand looks s n (hand_of p d) h = h
  same_fits v hand looks s n (take_by p) h = h

  abbrev pub rehanded : View D → List (ℕ × D) → List (ℕ × ℕ) → View D
  rehanded v hand looks = view v.number v.phase v.due v.handed hand looks

  -- the hand of p and its looks change, and one cell, for one that fits wherever the old one does
  pub rehands : (S W : ℕ) (f : FrontState J D) (c p : ℕ) (x : Cell J D) (hand : List (ℕ × D)) (looks : List (ℕ × ℕ)) → Lawful owed S W f → p < S + W
      → ((v : View D) (s n : ℕ) → Fits owed v s n (f.cells c) → Fits owed v s n x)
      → ((q k i : ℕ) (d : D) → slice_get (put f.seats p (rehanded (f.seats p) hand looks) q).hand k ≡ Some (i, d) → (i < SUBMITTER_CELLS * S) × (put f.cells c x i ≡ hand_of q d))
      → ((q i : ℕ) (d : D) → i < SUBMITTER_CELLS * S → put f.cells c x i ≡ hand_of q d → (k : ℕ) × (slice_get (put f.seats p (rehanded (f.seats p) hand looks) q).hand k ≡ Some (i, d)))
      → ((k l i : ℕ) (d e : D) → slice_get hand k ≡ Some (i, d) → slice_get hand l ≡ Some (i, e) → k ≡ l)
      → Lawful owed S W (front (put f.cells c x) (put f.seats p (rehanded (f.seats p) hand looks)))
  rehands S W f c p x hand looks law lp fits in_hand held once = let w : View D = rehanded (f.seats p) hand looks in lawful owed S W _ (record {
    behind = λ s. at_put f.seats p w (λ q y. y.handed ≤ length y.due) s (law.behind p) (λ _. law.behind s);
    within = λ s. at_put f.seats p w (λ q y. length y.due ≤ y.handed + SUBMITTER_CELLS) s (law.within p) (λ _. law.within s);
    spare = λ s. at_put f.seats p w (λ q y. y.phase ≢ Rest → length y.due < y.handed + SUBMITTER_CELLS) s (law.spare p) (λ _. law.spare s);
    emptied = λ s. at_put f.seats p w (λ q y. y.phase ≡ Emptying → 1 ≤ y.handed) s (law.emptied p) (λ _. law.emptied s);
    each_number = λ s n less. let all : (v : View D) → Fits owed v s n (f.cells (cell_of s n)) → Fits owed v s n (put f.cells c x (cell_of s n)) = λ v old.
        at_put f.cells c x (λ i y. i ≡ cell_of s n → Fits owed v s n y) (cell_of s n) (λ e. fits v s n (subst (λ (i : ℕ). Fits owed v s n (f.cells i)) (sym e) old)) (λ _ _. old) refl in
        at_put f.seats p w (λ q y. q ≡ s → y.handed ≤ n → n < y.handed + SUBMITTER_CELLS → Fits owed y s n (put f.cells c x (cell_of s n))) s
        (λ e lo hi. same_fits (f.seats p) hand looks s n (put f.cells c x (cell_of s n)) (all (f.seats p) (subst (λ (q : ℕ). (f.seats q).handed ≤ n → n < (f.seats q).handed + SUBMITTER_CELLS → Fits owed (f.seats q) s n (f.cells (cell_of s n))) (sym e) (each_number owed S W f law s n less) lo hi)))
        (λ _ _ lo hi. all (f.seats s) (each_number owed S W f law s n less lo hi)) refl;
    in_hand = in_hand;
    held = held;
    once = λ q k l i d e. at_put f.seats p w (λ q y. slice_get y.hand k ≡ Some (i, d) → slice_get y.hand l ≡ Some (i, e) → k ≡ l) q (once k l i d e) (λ _. law.once q k l i d e);
    posters = λ q far. at_put f.seats p w (λ q y. S ≤ q → (y.due ≡ []) × (y.phase ≡ Rest)) q (law.posters p) (λ _. law.posters q) far;
    nobody = λ q far. at_put f.seats p w (λ q y. S + W ≤ q → y ≡ new_party q) q (λ far. absurd (omega arith)) (λ _. law.nobody q) far;
  })

  -- the party p claims the job of the cell c
  pub claims : (S W : ℕ) (f : FrontState J D) (c p : ℕ) (j : J) (looks : List (ℕ × ℕ))
      → Lawful owed S W f → p < S + W → c < SUBMITTER_CELLS * S → f.cells c ≡ ready j
      → Lawful owed S W (front (put f.cells c (hand_of p (owed j))) (put f.seats p (rehanded (f.seats p) ((f.seats p).hand ++ (c, owed j) ∷ []) looks)))
  claims S W f c p j looks law lp near is =
      let hand : List (ℕ × D) = (f.seats p).hand in let d : D = owed j in let w : View D = rehanded (f.seats p) (hand ++ (c, d) ∷ []) looks in let x : Cell J D = hand_of p d in
      -- no hand has the cell
      let apart : (q k i : ℕ) (e : D) → slice_get (f.seats q).hand k ≡ Some (i, e) → i ≢ c = λ q k i e at same.
      not_in_hand (f.cells i) q e (ap (λ (z : ℕ). is_hand (f.cells z)) same ∙ ap is_hand is) (law.in_hand q k i e at).1 in
      rehands S W f c p x (hand ++ (c, d) ∷ []) looks law lp
      (λ v s n old. subst (Fits owed v s n) is old)
      (λ q k i e. at_put f.seats p w (λ q y. slice_get y.hand k ≡ Some (i, e) → (i < SUBMITTER_CELLS * S) × (put f.cells c x i ≡ hand_of q e)) q
      (λ at. ⊎_elim (λ old. let was = law.in_hand p k i e old in (was.0, put_else f.cells c i x (apart p k i e old) ∙ was.1))
      (λ new. let same_c : c ≡ i = ap (λ (z : ℕ × D). z.0) new.1 in let same_d : d ≡ e = ap (λ (z : ℕ × D). z.1) new.1 in
      (subst (λ (z : ℕ). z < SUBMITTER_CELLS * S) same_c near, ap (put f.cells c x) (sym same_c) ∙ put_here f.cells c x ∙ ap (hand_of p) same_d))
      (at_end hand (c, d) (i, e) k at))
      (λ _ old. let was = law.in_hand q k i e old in (was.0, put_else f.cells c i x (apart q k i e old) ∙ was.1)))
      (λ q i e less. at_put f.cells c x (λ i y. i < SUBMITTER_CELLS * S → y ≡ hand_of q e → (k : ℕ) × (slice_get (put f.seats p w q).hand k ≡ Some (i, e))) i
      (λ _ h. let same = one_holder p q d e h in (
        length hand,
        subst (λ (z : ℕ × D). slice_get (put f.seats p w z.0).hand (length hand) ≡ Some (c, z.1)) (λ t. (same.0 t, same.1 t))
            (subst (λ (u : View D). slice_get u.hand (length hand) ≡ Some (c, d)) (sym (put_here f.seats p w)) (at_middle hand [] (c, d))),
      ))
      (λ _ l h. let was = law.held q i e l h in (was.0, at_put f.seats p w (λ q y. slice_get (f.seats q).hand was.0 ≡ Some (i, e) → slice_get y.hand was.0 ≡ Some (i, e)) q (λ a. at_longer hand ((c, d) ∷ []) was.0 (i, e) a) (λ _ a. a) was.1))
      less)
      (λ k l i a b ka lb. ⊎_elim
      (λ ko. ⊎_elim (λ lo. law.once p k l i a b ko lo) (λ ln. absurd (apart p k i a ko (sym (ap (λ (z : ℕ × D). z.0) ln.1)))) (at_end hand (c, d) (i, b) l lb))
      (λ kn. ⊎_elim (λ lo. absurd (apart p l i b lo (sym (ap (λ (z : ℕ × D). z.0) kn.1)))) (λ ln. kn.0 ∙ sym ln.0) (at_end hand (c, d) (i, b) l lb))
      (at_end hand (c, d) (i, a) k ka))

  -- the party p finishes a cell of its hand
  pub finishes : (S W : ℕ) (f : FrontState J D) (c p : ℕ) (d : D) (more : List (ℕ × D)) (looks : List (ℕ × ℕ)) → Lawful owed S W f → p < S + W → Leaves (f.seats p).hand c d more
      → Lawful owed S W (front (put f.cells c (done d)) (put f.seats p (rehanded (f.seats p) more looks)))
  finishes S W f c p d more looks law lp leaves =
      let before : List (ℕ × D) = leaves.0 in let after : List (ℕ × D) = leaves.1 in
      let w : View D = rehanded (f.seats p) more looks in let x : Cell J D = done d in
      let there : slice_get (f.seats p).hand (length before) ≡ Some (c, d) = ap (λ (l : List (ℕ × D)). slice_get l (length before)) leaves.2 ∙ at_middle before after (c, d) in
      let later : (k i : ℕ) (e : D) → slice_get more k ≡ Some (i, e) → slice_get (f.seats p).hand (skip before k) ≡ Some (i, e) = λ k i e at.
      in_whole (f.seats p).hand more before after (c, d) (i, e) k leaves.2 leaves.3 at in
      let here = (law.in_hand p (length before) c d there).1 in
      let apart : (k i : ℕ) (e : D) → slice_get more k ≡ Some (i, e) → i ≢ c = λ k i e at same.
      skip_misses before k (law.once p (skip before k) (length before) i e d (later k i e at) (subst (λ (a : ℕ). slice_get (f.seats p).hand (length before) ≡ Some (a, d)) (sym same) there)) in
      rehands S W f c p x more looks law lp
      (λ v s n old. subst (Fits owed v s n) here old)
      (λ q k i e. at_put f.seats p w (λ q y. slice_get y.hand k ≡ Some (i, e) → (i < SUBMITTER_CELLS * S) × (put f.cells c x i ≡ hand_of q e)) q
      (λ at. let was = law.in_hand p (skip before k) i e (later k i e at) in (was.0, put_else f.cells c i x (apart k i e at) ∙ was.1))
      (λ other at. let was = law.in_hand q k i e at in (was.0, put_else f.cells c i x (λ same. other (sym (one_holder p q d e (sym here ∙ ap f.cells (sym same) ∙ was.1)).0)) ∙ was.1)))
      (λ q i e less. at_put f.cells c x (λ i y. i < SUBMITTER_CELLS * S → y ≡ hand_of q e → (k : ℕ) × (slice_get (put f.seats p w q).hand k ≡ Some (i, e))) i
      (λ _ h. absurd (not_in_hand x q e refl h))
      (λ other l h. let was = law.held q i e l h in
      at_put f.seats p w (λ q y. slice_get (f.seats q).hand was.0 ≡ Some (i, e) → (k : ℕ) × (slice_get y.hand k ≡ Some (i, e))) q
      (λ a. ⊎_elim (λ same. absurd (other (sym (ap (λ (z : ℕ × D). z.0) same))))
      (λ rest. (rest.0, ap (λ (m : List (ℕ × D)). slice_get m rest.0) leaves.3 ∙ rest.1))
      (stays before after (c, d) (i, e) was.0 (sym (ap (λ (m : List (ℕ × D)). slice_get m was.0) leaves.2) ∙ a))) (λ _ a. (was.0, a)) was.1)
      less)
      (λ k l i a b ka lb. skip_apart before k l (law.once p (skip before k) (skip before l) i a b (later k i a ka) (later l i b lb)))

  -- only the looks of the party p change
  pub relooks : (S W : ℕ) (f : FrontState J D) (p : ℕ) (looks : List (ℕ × ℕ)) → Lawful owed S W f → p < S + W → Lawful owed S W (front f.cells (put f.seats p (rehanded (f.seats p) (f.seats p).hand looks)))
  relooks S W f p looks law lp = let v : View D = f.seats p in let w : View D = rehanded v v.hand looks in record {
    behind = λ s. at_put f.seats p w (λ q y. y.handed ≤ length y.due) s (law.behind p) (λ _. law.behind s);
    within = λ s. at_put f.seats p w (λ q y. length y.due ≤ y.handed + SUBMITTER_CELLS) s (law.within p) (λ _. law.within s);
    spare = λ s. at_put f.seats p w (λ q y. y.phase ≢ Rest → length y.due < y.handed + SUBMITTER_CELLS) s (law.spare p) (λ _. law.spare s);
    emptied = λ s. at_put f.seats p w (λ q y. y.phase ≡ Emptying → 1 ≤ y.handed) s (law.emptied p) (λ _. law.emptied s);
    each_out = λ s n. at_put f.seats p w (λ q y. q < S → y.handed ≤ n → n < length y.due → result_in owed (f.cells (cell_of q n)) ≡ slice_get y.due n) s (law.each_out p n) (λ _. law.each_out s n);
    filling = λ s. at_put f.seats p w (λ q y. q < S → y.phase ≡ Opening → f.cells (cell_of q (length y.due)) ≡ open_by q) s (law.filling p) (λ _. law.filling s);
    emptying = λ s. at_put f.seats p w (λ q y. q < S → y.phase ≡ Emptying → f.cells (cell_of q (y.handed - 1)) ≡ take_by q) s (law.emptying p) (λ _. law.emptying s);
    idle = λ s n. at_put f.seats p w
        (λ q y. q < S → length y.due ≤ n → n < y.handed + SUBMITTER_CELLS → (y.phase ≡ Opening → cell_of q n ≢ cell_of q (length y.due)) → (y.phase ≡ Emptying → cell_of q n ≢ cell_of q (y.handed - 1)) → f.cells (cell_of q n) ≡ free) s
        (law.idle p n) (λ _. law.idle s n);
    in_hand = λ q k i d. at_put f.seats p w (λ q y. slice_get y.hand k ≡ Some (i, d) → (i < SUBMITTER_CELLS * S) × (f.cells i ≡ hand_of q d)) q (law.in_hand p k i d) (λ _. law.in_hand q k i d);
    held = λ q i d. at_put f.seats p w (λ q y. i < SUBMITTER_CELLS * S → f.cells i ≡ hand_of q d → (k : ℕ) × (slice_get y.hand k ≡ Some (i, d))) q (law.held p i d) (λ _. law.held q i d);
    once = λ q k l i d e. at_put f.seats p w (λ q y. slice_get y.hand k ≡ Some (i, d) → slice_get y.hand l ≡ Some (i, e) → k ≡ l) q (law.once p k l i d e) (λ _. law.once q k l i d e);
    posters = λ q. at_put f.seats p w (λ q y. S ≤ q → (y.due ≡ []) × (y.phase ≡ Rest)) q (law.posters p) (λ _. law.posters q);
    nobody = λ q far. at_put f.seats p w (λ q y. S + W ≤ q → y ≡ new_party q) q (λ far. absurd (omega arith)) (λ _. law.nobody q) far;
  }
