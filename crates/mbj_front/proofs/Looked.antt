-- Looks of a party at a table that shows a lawful state: each finds the word that is there, and leads on by a move.
use Rattle.std.proofs.Common.{◌≡◌, ℕ, ◌+◌, ◌*◌, ◌<◌, List, length, get_or, set, sym, refl, ap, ◌∙◌, subst, arith}
use mathlib.Core.Option.{some}
use lib.Seq.{set-get_or}
use Rattle.atomic_table.specs.Table.{State, keeps, takes}
use Rattle.mbj_core.specs.declared.cells.TheConstants.{SUBMITTER_CELLS}
use Rattle.mbj_core.specs.declared.party.View.{View}
use Rattle.mbj_core.specs.declared.party.Phase.TheVariants.{Rest}
use Rattle.mbj_core.specs.Cells.{Cell, free, ready, done, open_by, hand_of, take_by, word_of, cell_of}
use Rattle.mbj_core.specs.Parties.{FrontState, front}
use Rattle.mbj_core.specs.Lawful.{Lawful}
use Rattle.mbj_core.proofs.Puts.{put, put_here, put_else}
use Rattle.mbj_core.proofs.Fitting.{Is, each_number}
use Rattle.mbj_core.proofs.Posts.{near}
use Rattle.mbj_core.proofs.Phases.{done_there}
use Rattle.mbj_core.proofs.Steps.{put_changes}
use Rattle.mbj_front.specs.declared.slot.Slot.{Slot}
use Rattle.mbj_front.specs.declared.slot.Slot.TheVariants.{Task, Made}
use Rattle.mbj_front.specs.declared.place.Place.{Place}
use Rattle.mbj_front.specs.Rule.{home_of, place, Shows}
use Rattle.mbj_front.specs.Views.{after_look, after_claim, after_take}
use Rattle.mbj_front.specs.Moves.{claiming, looking, taking, Moves}
use Rattle.mbj_front.specs.Looks.{StepsBy, IsLookedAt, IsClaimed, IsTaken}
use Rattle.mbj_front.specs.Laws.{LooksAreWordsFound, LooksFindTheWord}
use Rattle.mbj_front.proofs.Shown.{table, shows_view, shows_cell}
use Rattle.mbj_front.proofs.MoveLaws.{after}

module _ {J D : Type 0} where
  ready_there : (y : Cell J D) → word_of y ≡ 1 → (j : J) × Is (ready j) y
  ready_there free e = absurd (omega arith)
  ready_there (ready j) e = (j, refl)
  ready_there (done d) e = absurd (omega arith)
  ready_there (open_by p) e = absurd (omega arith)
  ready_there (hand_of p d) e = absurd (omega arith)
  ready_there (take_by p) e = absurd (omega arith)

module _ {J D : Type 0} (owed : J → D) (S W : ℕ) where
  -- one cell and one part change
  pub shows_step : (s : State (Slot J D) (Place D)) (f : FrontState J D) (p c new : ℕ) (x : Cell J D) (w : View D) (h : Shows S W s f)
      → p < h.cut → c < SUBMITTER_CELLS * S → new ≡ word_of x → w.number ≡ p
      → Shows S W (table (set s.words c new) (set s.homes c (home_of x)) (set s.views (p + 1) (place S W w))) (after f c x p w)
  shows_step s f p c new x w h cut less is num =
      subst (λ (n : ℕ). Shows S W (table (set s.words c n) (set s.homes c (home_of x)) (set s.views (p + 1) (place S W w))) (after f c x p w)) (sym is)
      (shows_cell S W (table s.words s.homes (set s.views (p + 1) (place S W w))) (front f.cells (put f.seats p w)) c x (shows_view S W s f p w h cut num) less)

  module _ (s : State (Slot J D) (Place D)) (f : FrontState J D) (p c : ℕ) (held : List (ℕ × Slot J D)) (h : Shows S W s f) where
    pub looked : p < h.cut → c < SUBMITTER_CELLS * S → IsLookedAt owed S W s f p c held
    looked cut less =
        let r : ℕ = get_or s.words c 0 in
        let w : View D = after_look (f.seats p) c r in
        let g : FrontState J D = front f.cells (put f.seats p w) in
        let lp : p < S + W = omega (arith, h.few) in
        record {
          after = g;
          valid = tt;
          shows = subst (λ (ws : List ℕ). Shows S W (table ws s.homes (set s.views (p + 1) (place S W w))) g) (sym (set-get_or s.words c 0))
              (shows_view S W s f p w h cut (h.each_number p));
          moves = (lp, less, sym (h.each_word c less), record { cell = refl; other_cells = λ i ne. refl; party = put_here f.seats p w; other_parties = λ q ne. put_else f.seats p q w ne });
        }

    pub claimed : p < h.cut → c < SUBMITTER_CELLS * S → IsClaimed owed S W s f p c held
    claimed cut less = record {
      ready = λ hit.
          let lp : p < S + W = omega (arith, h.few) in
          let job = ready_there (f.cells c) (sym (h.each_word c less) ∙ hit) in
          let j : J = job.0 in let x : Cell J D = hand_of p (owed j) in let w : View D = after_claim (f.seats p) c (owed j) in (
            j,
            record {
              after = after f c x p w;
              valid = h.each_home c less ∙ ap (λ (y : Cell J D). some (home_of y)) job.1;
              shows = shows_step s f p c (word_of x) x w h cut less refl (h.each_number p);
              moves = (lp, less, job.1, put_changes f c x p w);
            },
          );
      other = λ _. looked cut less;
    }

    -- at the cell of the earliest that is out
    pub taken_at : Lawful owed S W f → p < h.cut → p < S → (f.seats p).phase ≡ Rest → (f.seats p).handed < length (f.seats p).due
        → cell_of p (f.seats p).handed ≡ c → IsTaken owed S W s f p c held
    taken_at law cut ls at_rest some_out here =
        let v : View D = f.seats p in
        let x : Cell J D = take_by p in
        let less : c < SUBMITTER_CELLS * S = subst (λ (k : ℕ). k < SUBMITTER_CELLS * S) here (near S p v.handed ls) in
        record {
          done = λ hit.
              let fits = each_number owed S W f law p v.handed ls (omega arith) (omega arith) in
              let found = done_there owed v p (f.cells (cell_of p v.handed)) fits (ap (λ (k : ℕ). word_of (f.cells k)) here ∙ sym (h.each_word c less) ∙ hit) in
              let d : D = found.0 in let w : View D = after_take v c in (
                d,
                record {
                  after = after f c x p w;
                  valid = h.each_home c less ∙ ap (λ (y : Cell J D). some (home_of y)) (ap f.cells (sym here) ∙ found.1);
                  shows = shows_step s f p c (word_of x) x w h cut less refl (h.each_number p);
                  moves = subst (λ (k : ℕ). Moves owed S W f p (taking d) (after f k x p (after_take v k))) here
                      (ls, at_rest, some_out, found.1, put_changes f (cell_of p v.handed) x p (after_take v (cell_of p v.handed)));
                },
              );
          other = λ _. looked cut less;
        }

module _ {J D : Type 0} (owed : J → D) where
  pub find_the_word : LooksFindTheWord owed
  find_the_word S W p s f held h law cut = record {
    load = λ c less. looked owed S W s f p c held h cut less;
    claim = λ c less. claimed owed S W s f p c held h cut less;
    take = λ ls at_rest some_out. taken_at owed S W s f p (cell_of p (f.seats p).handed) held h law cut ls at_rest some_out refl;
  }
