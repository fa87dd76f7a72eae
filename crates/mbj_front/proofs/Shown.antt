-- A step that changes one cell and one place shows the state so changed.
use Rattle.std.proofs.Common.{◌≡◌, ◌≢◌, ℕ, zero, suc, ◌+◌, ◌*◌, ◌<◌, ◌≤◌, true, false, List, [], ◌∷◌, length, get_or, set, sym, ap, ◌∙◌, subst, arith, add-one, length-set, get_or-set_same, get_or-set_other}
use mathlib.Core.Option.{Option, some, some-injective, some-ne-none}
use lib.ListN.{get_elem?}
use Rattle.atomic_table.specs.Table.{State}
use Rattle.atomic_table.proofs.Lists.{set_here, set_else}
use Rattle.mbj_core.specs.declared.cells.TheConstants.{SUBMITTER_CELLS}
use Rattle.mbj_core.specs.declared.party.View.{View}
use Rattle.mbj_core.specs.Cells.{Cell, word_of}
use Rattle.mbj_core.specs.Parties.{FrontState, front, new_party}
use Rattle.mbj_core.proofs.Puts.{put, at_put}
use Rattle.mbj_front.specs.declared.slot.Slot.{Slot}
use Rattle.mbj_front.specs.declared.place.Place.{Place}
use Rattle.mbj_front.specs.Rule.{home_of, place, root, Shows}

module _ {A : Type 0} where
  pub inside : (l : List A) (i : ℕ) (a : A) → get_elem? l i ≡ some a → i < length l
  inside [] i a e = absurd (some-ne-none a (sym e))
  inside (x ∷ xs) zero a e = omega arith
  inside (x ∷ xs) (suc i) a e = let h = inside xs i a e in omega arith

module _ {D : Type 0} where
  pub not_root : (x : Place D) (a b k : ℕ) → x ≡ root a b k → x.root ≢ false
  not_root x a b k e live = let bad : true ≡ false = sym (ap (λ (y : Place D). y.root) e) ∙ live in cc

module _ {J D : Type 0} where
  abbrev pub table : List ℕ → List (Option (Slot J D)) → List (Place D) → State (Slot J D) (Place D)
  table words homes places = record { words = words; homes = homes; views = places }

  -- the place at index id, if it is no root's, is that of a party
  pub seated : (S W : ℕ) (s : State (Slot J D) (Place D)) (f : FrontState J D) (id : ℕ) (x : Place D) (h : Shows S W s f) → get_elem? s.views id ≡ some x → x.root ≡ false
      → (p : ℕ) × (p + 1 ≡ id) × (place S W (f.seats p) ≡ x) × (p < h.cut)
  seated S W s f zero x h at live = absurd (not_root x S W h.cut (some-injective _ _ (sym at ∙ h.the_root)) live)
  seated S W s f (suc q) x h at live =
      let at' : get_elem? s.views (q + 1) ≡ some x = subst (λ (k : ℕ). get_elem? s.views k ≡ some x) (sym (add-one q)) at in
      let near = inside s.views (q + 1) x at' in let l : q < h.cut = omega (arith, near, h.place_count) in
      (q, add-one q, some-injective _ _ (sym (h.each_place q l) ∙ at'), l)

  -- only the part of the party p changes
  pub shows_view : (S W : ℕ) (s : State (Slot J D) (Place D)) (f : FrontState J D) (p : ℕ) (w : View D) (h : Shows S W s f) → p < h.cut → w.number ≡ p
      → Shows S W (table s.words s.homes (set s.views (p + 1) (place S W w))) (front f.cells (put f.seats p w))
  shows_view S W s f p w h l num = record {
    cut = h.cut;
    few = h.few;
    word_count = h.word_count;
    home_count = h.home_count;
    each_word = h.each_word;
    each_home = h.each_home;
    place_count = length-set s.views (p + 1) (place S W w) ∙ h.place_count;
    the_root = set_else s.views (p + 1) 0 (place S W w) (λ e. omega arith) ∙ h.the_root;
    each_place = λ q l. at_put f.seats p w (λ k y. k < h.cut → get_elem? (set s.views (p + 1) (place S W w)) (k + 1) ≡ some (place S W y)) q
        (λ near. set_here s.views (p + 1) (place S W w) (omega (arith, h.place_count))) (λ ne l. set_else s.views (p + 1) (q + 1) (place S W w) (λ e. ne (omega arith)) ∙ h.each_place q l) l;
    each_number = λ q. at_put f.seats p w (λ k y. y.number ≡ k) q num (λ _. h.each_number q);
    uncut = λ q far. at_put f.seats p w (λ k y. h.cut ≤ k → y ≡ new_party k) q (λ far. absurd (omega arith)) (λ _. h.uncut q) far;
  }

  -- one cell changes
  pub shows_cell : (S W : ℕ) (s : State (Slot J D) (Place D)) (f : FrontState J D) (c : ℕ) (x : Cell J D) (h : Shows S W s f) → c < SUBMITTER_CELLS * S
      → Shows S W (table (set s.words c (word_of x)) (set s.homes c (home_of x)) s.views) (front (put f.cells c x) f.seats)
  shows_cell S W s f c x h near = record {
    cut = h.cut;
    few = h.few;
    word_count = length-set s.words c (word_of x) ∙ h.word_count;
    home_count = length-set s.homes c (home_of x) ∙ h.home_count;
    each_word = λ i l. at_put f.cells c x (λ q y. q < SUBMITTER_CELLS * S → get_or (set s.words c (word_of x)) q 0 ≡ word_of y) i
        (λ _. get_or-set_same s.words c (word_of x) 0 (omega (arith, h.word_count))) (λ ne l. get_or-set_other s.words c i (word_of x) 0 ne ∙ h.each_word i l) l;
    each_home = λ i l. at_put f.cells c x (λ q y. q < SUBMITTER_CELLS * S → get_elem? (set s.homes c (home_of x)) q ≡ some (home_of y)) i
        (λ _. set_here s.homes c (home_of x) (omega (arith, h.home_count))) (λ ne l. set_else s.homes c i (home_of x) ne ∙ h.each_home i l) l;
    place_count = h.place_count;
    the_root = h.the_root;
    each_place = h.each_place;
    each_number = h.each_number;
    uncut = h.uncut;
  }
