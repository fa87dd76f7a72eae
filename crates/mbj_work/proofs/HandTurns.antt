-- Hands to whose end pairs came while others left at the front.
use Rattle.std.proofs.Common.{◌≡◌, Bool, true, false, ℕ, zero, suc, ◌+◌, ◌≤◌, List, [], ◌∷◌, ◌++◌, drop, refl, sym, ap, subst, ◌∙◌, arith}
use Rattle.std.proofs.lemmas.List.{drop-drop}
use Rattle.std.specs.Int.{from_bool}
use Rattle.mbj_core.specs.declared.party.View.{View}
use Rattle.mbj_front.specs.Views.{after_finish}
use Rattle.mbj_work.specs.Turns.{GivesBack, ClaimsInTurn}

module _ {X : Type 0} where
  pub gives_none : (h : List X) → GivesBack h h
  gives_none h = (0, refl)

  -- the first pair left
  pub gives_first : (h k : List X) (x : X) → h ≡ x ∷ k → GivesBack h k
  gives_first h k x is = (1, sym (ap (drop 1) is))

  pub gives_on : (h g k : List X) → GivesBack h g → GivesBack g k → GivesBack h k
  gives_on h g k (n, is) (m, last) = (n + m, last ∙ ap (drop m) is ∙ drop-drop m n h)

  pub claims_on : (n : ℕ) (h g k : List X) → ClaimsInTurn n h g → GivesBack g k → ClaimsInTurn n h k
  claims_on zero h g k c b = gives_on h g k c b
  claims_on (suc n) h g k (f, x, c, last) b = (f, x, c, gives_on (f ++ x ∷ []) g k last b)

  -- one claim more
  pub claims_more : (n : ℕ) (h g k : List X) → ClaimsInTurn n h g → ClaimsInTurn 1 g k → ClaimsInTurn (n + 1) h k
  claims_more n h g k c (f, x, b, last) =
      subst (λ (m : ℕ). ClaimsInTurn m h k) (let e : suc n ≡ n + 1 = omega arith in e) (f, x, claims_on n h g f c b, last)

  -- some leave, and then one comes or none
  pub gives_then : (claimed : Bool) (h g k : List X) → GivesBack h g → ClaimsInTurn (from_bool claimed) g k → ClaimsInTurn (from_bool claimed) h k
  gives_then true h g k b (f, x, c, last) = (f, x, gives_on h g f b c, last)
  gives_then false h g k b c = gives_on h g k b c

  -- so many claims, and then one or none
  pub claims_then : (claimed : Bool) (n : ℕ) (h g k : List X) → ClaimsInTurn n h g → ClaimsInTurn (from_bool claimed) g k
      → ClaimsInTurn (n + from_bool claimed) h k
  claims_then true n h g k c d = claims_more n h g k c d
  claims_then false n h g k c d =
      subst (λ (m : ℕ). ClaimsInTurn m h k) (let e : n ≡ n + 0 = omega arith in e) (claims_on n h g k c d)

pub one_at_most : (claimed : Bool) → from_bool claimed ≤ 1
one_at_most true = omega arith
one_at_most false = omega arith

-- what leaves as the first cell is finished
pub finishes_hand : {D : Type 0} (v w : View D) (cell : ℕ) (d : D) (more : List (ℕ × D)) → v.hand ≡ (cell, d) ∷ more → w ≡ after_finish v more
    → GivesBack v.hand w.hand
finishes_hand v w cell d more first part = gives_first v.hand w.hand (cell, d) (first ∙ ap (λ l. (cell, d) ∷ l) (sym (ap (λ u. u.hand) part)))

-- a claim, whose result may have been given back at once
pub claimed_hand : {D : Type 0} (v w : View D) (cell : ℕ) (d : D) → GivesBack (v.hand ++ (cell, d) ∷ []) w.hand → ClaimsInTurn 1 v.hand w.hand
claimed_hand v w cell d b = (v.hand, (cell, d), gives_none v.hand, b)
