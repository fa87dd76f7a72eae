-- A post and a collect in two steps each, as parties make them that run side by side: opening the next cell and
-- publishing its job, taking a result and freeing its cell. Each leads from a lawful state to a lawful one.
use Rattle.std.proofs.Common.{◌≡◌, ◌≢◌, ℕ, ◌+◌, ◌-◌, ◌<◌, List, [], ◌∷◌, ◌++◌, length, sym, refl, ap, ◌∙◌, subst, arith}
use Rattle.std.specs.Prelude.{Some, slice_get}
use mathlib.Core.Logic.{dite}
use native.Mathlib.Decide.{ℕ_discrete}
use Rattle.mbj_core.specs.declared.party.View.{View}
use Rattle.mbj_core.specs.declared.party.Phase.TheVariants.{Rest, Opening, Emptying}
use Rattle.mbj_core.specs.declared.cells.TheConstants.{SUBMITTER_CELLS}
use Rattle.mbj_core.specs.Cells.{Cell, free, ready, done, open_by, hand_of, take_by, word_of, cell_of}
use Rattle.mbj_core.specs.Parties.{view, front, FrontState}
use Rattle.mbj_core.specs.Lawful.{Lawful}
use Rattle.mbj_core.proofs.Fitting.{rest_open, rest_take, open_take, Is, Fits, free_there, open_there, take_there, each_number}
use Rattle.mbj_core.proofs.Puts.{put, put_here, put_else}
use Rattle.mbj_core.proofs.Hands.{is_hand}
use Rattle.mbj_core.proofs.Posts.{one_number, reposts, fills}

module _ {J D : Type 0} (owed : J → D) where
  opened_fits : (v : View D) (looks : List (ℕ × ℕ)) (s n : ℕ) (y : Cell J D) → Fits owed v s n y → v.phase ≡ Rest → n ≢ length v.due → Fits owed (view v.number Opening v.due v.handed v.hand looks) s n y
  opened_fits v looks s n free h r ne = (h.0, (λ _. ne), λ e. absurd (open_take e))
  opened_fits v looks s n (ready j) h r ne = h
  opened_fits v looks s n (done d) h r ne = h
  opened_fits v looks s n (open_by p) h r ne = absurd (ne h.0)
  opened_fits v looks s n (hand_of p d) h r ne = h
  opened_fits v looks s n (take_by p) h r ne = absurd (rest_take (sym r ∙ h.2))

  -- the submitter at rest opens the cell of its next number
  pub opens : (S W : ℕ) (f : FrontState J D) (p : ℕ) (looks : List (ℕ × ℕ)) → Lawful owed S W f → p < S → (f.seats p).phase ≡ Rest → length (f.seats p).due < (f.seats p).handed + SUBMITTER_CELLS
      → let v : View D = f.seats p in let i : ℕ = cell_of p (length v.due) in
      (f.cells i ≡ free) × Lawful owed S W (front (put f.cells i (open_by p)) (put f.seats p (view v.number Opening v.due v.handed v.hand looks)))
  opens S W f p looks law less at_rest room =
      let v : View D = f.seats p in let m : ℕ = length v.due in let i : ℕ = cell_of p m in let x : Cell J D = open_by p in
      let here = free_there owed v p m (f.cells i) (each_number owed S W f law p m less (law.behind p) room) at_rest (omega arith) in (
        here,
        reposts owed S W f p m x Opening v.due v.handed looks law less (law.behind p) (law.within p) (λ _. room) (λ e. absurd (open_take e)) (ap is_hand here) refl
            (λ n lo hi. dite (ℕ_discrete n m)
            (λ e. subst (λ (k : ℕ). Fits owed (view v.number Opening v.due v.handed v.hand looks) p k (put f.cells i x (cell_of p k))) (sym e)
            (subst (Fits owed (view v.number Opening v.due v.handed v.hand looks) p m) (sym (put_here f.cells i x)) (refl, refl, refl)))
            (λ ne. subst (Fits owed (view v.number Opening v.due v.handed v.hand looks) p n) (sym (put_else f.cells i (cell_of p n) x (λ e. ne (one_number p v.handed n m lo hi (law.behind p) room e))))
            (opened_fits v looks p n (f.cells (cell_of p n)) (each_number owed S W f law p n less lo hi) at_rest ne))),
      )

  -- the cell that the submitter fills gets a job
  pub publishes : (S W : ℕ) (f : FrontState J D) (p : ℕ) (j : J) (looks : List (ℕ × ℕ)) → Lawful owed S W f → p < S → (f.seats p).phase ≡ Opening
      → let v : View D = f.seats p in let i : ℕ = cell_of p (length v.due) in
      (f.cells i ≡ open_by p) × Lawful owed S W (front (put f.cells i (ready j)) (put f.seats p (view v.number Rest (v.due ++ owed j ∷ []) v.handed v.hand looks)))
  publishes S W f p j looks law less at =
      let v : View D = f.seats p in let m : ℕ = length v.due in let i : ℕ = cell_of p m in
      let room = law.spare p (λ e. rest_open (sym e ∙ at)) in
      let here = open_there owed v p m (f.cells i) (each_number owed S W f law p m less (law.behind p) room) at refl in
      (here, fills owed S W f p j looks law less (λ e. open_take (sym at ∙ e)) room (ap is_hand here))

  -- at the cell of the number handed stands a result if its word is 2
  pub done_there : (v : View D) (s : ℕ) (y : Cell J D) → Fits owed v s v.handed y → word_of y ≡ 2 → (d : D) × Is (done d) y × (slice_get v.due v.handed ≡ Some d)
  done_there v s free h two = absurd (omega arith)
  done_there v s (ready j) h two = absurd (omega arith)
  done_there v s (done d) h two = (d, refl, h)
  done_there v s (open_by p) h two = absurd (omega arith)
  done_there v s (hand_of p d) h two = absurd (omega arith)
  done_there v s (take_by p) h two = absurd (omega arith)

  taken_fits : (v : View D) (looks : List (ℕ × ℕ)) (s n : ℕ) (y : Cell J D) → Fits owed v s n y → v.phase ≡ Rest → n < v.handed + SUBMITTER_CELLS → Fits owed (view v.number Emptying v.due (v.handed + 1) v.hand looks) s n y
  taken_fits v looks s n free h r l = (h.0, (λ e. absurd (open_take (sym e))), λ _ e. omega arith)
  taken_fits v looks s n (ready j) h r l = h
  taken_fits v looks s n (done d) h r l = h
  taken_fits v looks s n (open_by p) h r l = absurd (rest_open (sym r ∙ h.2))
  taken_fits v looks s n (hand_of p d) h r l = h
  taken_fits v looks s n (take_by p) h r l = absurd (rest_take (sym r ∙ h.2))

  -- the submitter at rest takes the result of its earliest job that is out
  pub takes_done : (S W : ℕ) (f : FrontState J D) (p : ℕ) (d : D) (looks : List (ℕ × ℕ)) → Lawful owed S W f → p < S → (f.seats p).phase ≡ Rest → (f.seats p).handed < length (f.seats p).due
      → f.cells (cell_of p (f.seats p).handed) ≡ done d
      → let v : View D = f.seats p in let i : ℕ = cell_of p v.handed in
      Lawful owed S W (front (put f.cells i (take_by p)) (put f.seats p (view v.number Emptying v.due (v.handed + 1) v.hand looks)))
  takes_done S W f p d looks law less at_rest some_out is =
      let v : View D = f.seats p in let h : ℕ = v.handed in let i : ℕ = cell_of p h in let x : Cell J D = take_by p in let w : View D = view v.number Emptying v.due (h + 1) v.hand looks in
      let b = law.behind p in let c = law.within p in
      reposts owed S W f p h x Emptying v.due (h + 1) looks law less (omega arith) (omega arith) (λ _. omega arith) (λ _. omega arith) (ap is_hand is) refl
      (λ n lo hi. dite (ℕ_discrete n (h + SUBMITTER_CELLS))
      (λ e. subst (λ (k : Cell J D). Fits owed w p n k) (sym (put_here f.cells i x) ∙ ap (put f.cells i x) (let same : i ≡ cell_of p n = omega arith in same)) (omega arith, refl, refl))
      (λ ne. subst (Fits owed w p n) (sym (put_else f.cells i (cell_of p n) x (λ e. let same = one_number p h n h (omega arith) (omega arith) (omega arith) (omega arith) e in absurd (omega arith))))
      (taken_fits v looks p n (f.cells (cell_of p n)) (each_number owed S W f law p n less (omega arith) (omega arith)) at_rest (omega arith))))

  freed_fits : (v : View D) (looks : List (ℕ × ℕ)) (s n : ℕ) (y : Cell J D) → Fits owed v s n y → v.phase ≡ Emptying → n + 1 ≢ v.handed + SUBMITTER_CELLS → Fits owed (view v.number Rest v.due v.handed v.hand looks) s n y
  freed_fits v looks s n free h r ne = (h.0, (λ e. absurd (rest_open e)), λ e. absurd (rest_take e))
  freed_fits v looks s n (ready j) h r ne = h
  freed_fits v looks s n (done d) h r ne = h
  freed_fits v looks s n (open_by p) h r ne = absurd (open_take (sym h.2 ∙ r))
  freed_fits v looks s n (hand_of p d) h r ne = h
  freed_fits v looks s n (take_by p) h r ne = absurd (ne h.0)

  -- the cell that the submitter empties is free again
  pub frees : (S W : ℕ) (f : FrontState J D) (p : ℕ) (looks : List (ℕ × ℕ)) → Lawful owed S W f → p < S → (f.seats p).phase ≡ Emptying
      → let v : View D = f.seats p in let i : ℕ = cell_of p (v.handed + (SUBMITTER_CELLS - 1)) in
      (f.cells i ≡ take_by p) × Lawful owed S W (front (put f.cells i free) (put f.seats p (view v.number Rest v.due v.handed v.hand looks)))
  frees S W f p looks law less at =
      let v : View D = f.seats p in let m : ℕ = v.handed + (SUBMITTER_CELLS - 1) in let i : ℕ = cell_of p m in let x : Cell J D = free in let w : View D = view v.number Rest v.due v.handed v.hand looks in
      let room : length v.due < v.handed + SUBMITTER_CELLS = law.spare p (λ e. rest_take (sym e ∙ at)) in
      let here = take_there owed v p m (f.cells i) (each_number owed S W f law p m less (omega arith) (omega arith)) at (omega arith) room in (
        here,
        reposts owed S W f p m x Rest v.due v.handed looks law less (law.behind p) (law.within p) (λ e. absurd (e refl)) (λ e. absurd (rest_take e)) (ap is_hand here) refl
            (λ n lo hi. dite (ℕ_discrete n m)
            (λ e. subst (λ (k : ℕ). Fits owed w p k (put f.cells i x (cell_of p k))) (sym e)
            (subst (Fits owed w p m) (sym (put_here f.cells i x)) (omega arith, (λ e. absurd (rest_open e)), λ e. absurd (rest_take e))))
            (λ ne. subst (Fits owed w p n) (sym (put_else f.cells i (cell_of p n) x (λ e. ne (one_number p v.handed n m lo hi (omega arith) (omega arith) e))))
            (freed_fits v looks p n (f.cells (cell_of p n)) (each_number owed S W f law p n less lo hi) at (λ e. ne (omega arith))))),
      )
