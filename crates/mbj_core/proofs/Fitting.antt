-- The law's sentences on cells, as one on each number: what the cell of that number may hold.
use Rattle.std.proofs.Common.{◌≡◌, ◌≢◌, ℕ, ◌+◌, ◌-◌, ◌*◌, ◌<◌, ◌≤◌, [], length, sym, ap, ◌∙◌, refl, subst, arith}
use Rattle.std.specs.Prelude.{Some, slice_get}
use Rattle.std.proofs.lemmas.Option.{none-some, slice_get_within}
use mathlib.Core.Logic.{dite}
use native.Mathlib.Decide.{ℕ_discrete, dec_le}
use Rattle.mbj_core.specs.declared.party.View.{View}
use Rattle.mbj_core.specs.declared.party.Phase.{Phase}
use Rattle.mbj_core.specs.declared.party.Phase.TheVariants.{Rest, Opening, Emptying}
use Rattle.mbj_core.specs.declared.cells.TheConstants.{SUBMITTER_CELLS}
use Rattle.mbj_core.specs.Cells.{Cell, free, ready, done, open_by, hand_of, take_by, result_in, cell_of}
use Rattle.mbj_core.specs.Parties.{FrontState, new_party}
use Rattle.mbj_core.specs.Lawful.{Lawful}
use Rattle.mbj_core.proofs.Entries.{at_index}

pub rest_open : Rest ≢ Opening
rest_open e = cc

pub rest_take : Rest ≢ Emptying
rest_take e = cc

pub open_take : Opening ≢ Emptying
open_take e = cc

module _ {J D : Type 0} where
  -- the cell y is x
  abbrev pub Is : Cell J D → Cell J D → Type 0
  Is x y = y ≡ x

module _ {J D : Type 0} (owed : J → D) where
  -- What the cell of the number n may hold, for a submitter s whose part is v. The number is one of the
  -- SUBMITTER_CELLS numbers from v.handed on, so each cell of s is that of exactly one of them. The cell of the number
  -- v.handed - 1, which was handed out last, is that of the last of them, v.handed + SUBMITTER_CELLS - 1.
  abbrev pub Fits : View D → ℕ → ℕ → Cell J D → Type 0
  -- n isn't out, and its cell is neither being filled nor being emptied
  Fits v s n free = (length v.due ≤ n) × (v.phase ≡ Opening → n ≢ length v.due) × (v.phase ≡ Emptying → n + 1 ≢ v.handed + SUBMITTER_CELLS)
  -- n is out, and this is its result
  Fits v s n (ready j) = slice_get v.due n ≡ Some (owed j)
  Fits v s n (done d) = slice_get v.due n ≡ Some d
  Fits v s n (hand_of p d) = slice_get v.due n ≡ Some d
  -- n is the number of the next job, and the submitter fills its cell
  Fits v s n (open_by p) = (n ≡ length v.due) × (p ≡ s) × (v.phase ≡ Opening)
  -- the submitter empties the cell of the number v.handed - 1
  Fits v s n (take_by p) = (n + 1 ≡ v.handed + SUBMITTER_CELLS) × (p ≡ s) × (v.phase ≡ Emptying)

  -- the cell of a number that is out fits it, if it has the result that is due
  pub fits_due : (v : View D) (s n : ℕ) (y : Cell J D) → n < length v.due → result_in owed y ≡ slice_get v.due n → Fits v s n y
  fits_due v s n free l e = let h = at_index v.due n l in absurd (none-some h.0 (e ∙ h.1))
  fits_due v s n (ready j) l e = sym e
  fits_due v s n (done d) l e = sym e
  fits_due v s n (open_by p) l e = let h = at_index v.due n l in absurd (none-some h.0 (e ∙ h.1))
  fits_due v s n (hand_of p d) l e = sym e
  fits_due v s n (take_by p) l e = let h = at_index v.due n l in absurd (none-some h.0 (e ∙ h.1))

  due_there : (v : View D) (s n : ℕ) (y : Cell J D) → Fits v s n y → n < length v.due → (v.phase ≡ Emptying → length v.due < v.handed + SUBMITTER_CELLS) → result_in owed y ≡ slice_get v.due n
  due_there v s n free h l room = absurd (omega (arith, h.0))
  due_there v s n (ready j) h l room = sym h
  due_there v s n (done d) h l room = sym h
  due_there v s n (open_by p) h l room = absurd (omega (arith, h.0))
  due_there v s n (hand_of p d) h l room = sym h
  due_there v s n (take_by p) h l room = let few = room h.2 in absurd (omega (arith, h.0))

  pub open_there : (v : View D) (s n : ℕ) (y : Cell J D) → Fits v s n y → v.phase ≡ Opening → n ≡ length v.due → Is (open_by s) y
  open_there v s n free h r e = absurd (h.1 r e)
  open_there v s n (ready j) h r e = let l = slice_get_within v.due n (owed j) h in absurd (omega arith)
  open_there v s n (done d) h r e = let l = slice_get_within v.due n d h in absurd (omega arith)
  open_there v s n (open_by p) h r e = ap open_by h.1
  open_there v s n (hand_of p d) h r e = let l = slice_get_within v.due n d h in absurd (omega arith)
  open_there v s n (take_by p) h r e = absurd (open_take (sym r ∙ h.2))

  pub take_there : (v : View D) (s n : ℕ) (y : Cell J D) → Fits v s n y → v.phase ≡ Emptying → n + 1 ≡ v.handed + SUBMITTER_CELLS → length v.due < v.handed + SUBMITTER_CELLS → Is (take_by s) y
  take_there v s n free h r e le = absurd (h.2 r e)
  take_there v s n (ready j) h r e le = let l = slice_get_within v.due n (owed j) h in absurd (omega arith)
  take_there v s n (done d) h r e le = let l = slice_get_within v.due n d h in absurd (omega arith)
  take_there v s n (open_by p) h r e le = absurd (open_take (sym h.2 ∙ r))
  take_there v s n (hand_of p d) h r e le = let l = slice_get_within v.due n d h in absurd (omega arith)
  take_there v s n (take_by p) h r e le = ap take_by h.1

  idle_there : (v : View D) (s n : ℕ) (y : Cell J D) → Fits v s n y → length v.due ≤ n → (v.phase ≡ Opening → n ≢ length v.due) → (v.phase ≡ Emptying → n + 1 ≢ v.handed + SUBMITTER_CELLS) → Is free y
  idle_there v s n free h e o t = refl
  idle_there v s n (ready j) h e o t = let l = slice_get_within v.due n (owed j) h in absurd (omega arith)
  idle_there v s n (done d) h e o t = let l = slice_get_within v.due n d h in absurd (omega arith)
  idle_there v s n (open_by p) h e o t = absurd (o h.2 h.0)
  idle_there v s n (hand_of p d) h e o t = let l = slice_get_within v.due n d h in absurd (omega arith)
  idle_there v s n (take_by p) h e o t = absurd (t h.2 h.0)

  -- at rest, the cell of a number that isn't out is free
  pub free_there : (v : View D) (s n : ℕ) (y : Cell J D) → Fits v s n y → v.phase ≡ Rest → length v.due ≤ n → Is free y
  free_there v s n y h r e = idle_there v s n y h e (λ o. absurd (rest_open (sym r ∙ o))) (λ t. absurd (rest_take (sym r ∙ t)))

  -- the law, with one sentence on the cell of each number
  pub record Fitted (submitters workers : ℕ) (f : FrontState J D) : Type 0 where
    pub behind : (s : ℕ) → (f.seats s).handed ≤ length (f.seats s).due
    pub within : (s : ℕ) → length (f.seats s).due ≤ (f.seats s).handed + SUBMITTER_CELLS
    pub spare : (s : ℕ) → (f.seats s).phase ≢ Rest → length (f.seats s).due < (f.seats s).handed + SUBMITTER_CELLS
    pub emptied : (s : ℕ) → (f.seats s).phase ≡ Emptying → 1 ≤ (f.seats s).handed
    pub each_number : (s n : ℕ) → s < submitters → (f.seats s).handed ≤ n → n < (f.seats s).handed + SUBMITTER_CELLS
        → Fits (f.seats s) s n (f.cells (cell_of s n))
    pub in_hand : (p k c : ℕ) (d : D) → slice_get (f.seats p).hand k ≡ Some (c, d) → (c < SUBMITTER_CELLS * submitters) × (f.cells c ≡ hand_of p d)
    pub held : (p c : ℕ) (d : D) → c < SUBMITTER_CELLS * submitters → f.cells c ≡ hand_of p d → (k : ℕ) × (slice_get (f.seats p).hand k ≡ Some (c, d))
    pub once : (p k l c : ℕ) (d e : D) → slice_get (f.seats p).hand k ≡ Some (c, d) → slice_get (f.seats p).hand l ≡ Some (c, e) → k ≡ l
    pub posters : (p : ℕ) → submitters ≤ p → ((f.seats p).due ≡ []) × ((f.seats p).phase ≡ Rest)
    pub nobody : (p : ℕ) → submitters + workers ≤ p → f.seats p ≡ new_party p

  module _ (submitters workers : ℕ) (f : FrontState J D) where
    pub lawful : Fitted submitters workers f → Lawful owed submitters workers f
    lawful law = record {
      behind = law.behind;
      within = law.within;
      spare = law.spare;
      emptied = law.emptied;
      each_out = λ s n l lo hi. let w = law.within s in
          due_there (f.seats s) s n (f.cells (cell_of s n)) (law.each_number s n l lo (omega arith)) hi (λ e. law.spare s (λ r. rest_take (sym r ∙ e)));
      filling = λ s l e. let room = law.spare s (λ r. rest_open (sym r ∙ e)) in let n : ℕ = length (f.seats s).due in
          open_there (f.seats s) s n (f.cells (cell_of s n)) (law.each_number s n l (law.behind s) room) e refl;
      emptying = λ s l e. let room = law.spare s (λ r. rest_take (sym r ∙ e)) in let some = law.emptied s e in let h : ℕ = (f.seats s).handed in let n : ℕ = h + (SUBMITTER_CELLS - 1) in
          let same : cell_of s (h - 1) ≡ cell_of s n = omega arith in
          ap f.cells same ∙ take_there (f.seats s) s n (f.cells (cell_of s n)) (law.each_number s n l (omega arith) (omega arith)) e (omega arith) room;
      idle = λ s n l past hi o t. let b = law.behind s in let h : ℕ = (f.seats s).handed in
          idle_there (f.seats s) s n (f.cells (cell_of s n)) (law.each_number s n l (omega arith) hi) past (λ e same. o e (ap (cell_of s) same))
          (λ e last. let some = law.emptied s e in t e (let same : cell_of s n ≡ cell_of s (h - 1) = omega arith in same));
      in_hand = law.in_hand;
      held = law.held;
      once = law.once;
      posters = law.posters;
      nobody = law.nobody;
    }

    pub each_number : Lawful owed submitters workers f → (s n : ℕ) → s < submitters → (f.seats s).handed ≤ n → n < (f.seats s).handed + SUBMITTER_CELLS → Fits (f.seats s) s n (f.cells (cell_of s n))
    each_number law s n l lo hi = dite (dec_le (length v.due) n) (λ past. not_out past v.phase refl) (λ out. let near : n < length v.due = omega arith in fits_due v s n y near (law.each_out s n l lo near))
      where
        v : View D
        v = f.seats s

        y : Cell J D
        y = f.cells (cell_of s n)

        not_out : length v.due ≤ n → (phase : Phase) → v.phase ≡ phase → Fits v s n y
        not_out past Rest r = subst (Fits v s n) (sym (law.idle s n l past hi (λ o. absurd (rest_open (sym r ∙ o))) (λ t. absurd (rest_take (sym r ∙ t)))))
            (past, (λ o. absurd (rest_open (sym r ∙ o))), λ t. absurd (rest_take (sym r ∙ t)))
        not_out past Opening o = dite (ℕ_discrete n (length v.due))
            (λ e. subst (Fits v s n) (sym (ap (λ (k : ℕ). f.cells (cell_of s k)) e ∙ law.filling s l o)) (e, refl, o))
            (λ ne. let room = law.spare s (λ r. rest_open (sym r ∙ o)) in let b = law.behind s in
            subst (Fits v s n) (sym (law.idle s n l past hi (λ _ same. ne (let e : n ≡ length v.due = omega arith in e)) (λ t. absurd (open_take (sym o ∙ t)))))
            (past, (λ _. ne), λ t. absurd (open_take (sym o ∙ t))))
        not_out past Emptying t = let some = law.emptied s t in dite (ℕ_discrete (n + 1) (v.handed + SUBMITTER_CELLS))
            (λ e. let same : cell_of s n ≡ cell_of s (v.handed - 1) = omega arith in subst (Fits v s n) (sym (ap f.cells same ∙ law.emptying s l t)) (e, refl, t))
            (λ ne. subst (Fits v s n) (sym (law.idle s n l past hi (λ o. absurd (open_take (sym o ∙ t))) (λ _ same. ne (let e : n + 1 ≡ v.handed + SUBMITTER_CELLS = omega arith in e))))
            (past, (λ o. absurd (open_take (sym o ∙ t))), λ _. ne))
