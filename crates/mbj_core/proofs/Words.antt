-- What the word of a cell and its result tell of it.
use Rattle.std.proofs.Common.{◌≡◌, ℕ, ◌+◌, ◌*◌, sym, refl, ap, ◌∙◌, arith}
use Rattle.std.specs.Prelude.{Some}
use Rattle.std.proofs.lemmas.Option.{same_Some}
use Rattle.mbj_core.specs.Cells.{Cell, free, ready, done, open_by, hand_of, take_by, word_of, result_in}

module _ {J D : Type 0} where
  pub free_word : (y : Cell J D) → word_of y ≡ 0 → y ≡ free
  free_word free e = refl
  free_word (ready j) e = absurd (omega arith)
  free_word (done d) e = absurd (omega arith)
  free_word (open_by p) e = absurd (omega arith)
  free_word (hand_of p d) e = absurd (omega arith)
  free_word (take_by p) e = absurd (omega arith)

  pub hand_word : (y : Cell J D) (p : ℕ) → word_of y ≡ 4 + 3 * p → (d : D) × (y ≡ hand_of p d)
  hand_word free p e = absurd (omega arith)
  hand_word (ready j) p e = absurd (omega arith)
  hand_word (done d) p e = absurd (omega arith)
  hand_word (open_by q) p e = absurd (omega arith)
  hand_word (hand_of q d) p e = let same : q ≡ p = omega arith in (d, ap (λ (r : ℕ). hand_of r d) same)
  hand_word (take_by q) p e = absurd (omega arith)

module _ {J D : Type 0} (owed : J → D) where
  pub same_result : (y : Cell J D) (p : ℕ) (d e : D) → y ≡ hand_of p d → result_in owed y ≡ Some e → d ≡ e
  same_result y p d e is r = same_Some d e (sym (ap (result_in owed) is) ∙ r)
