-- What stands first among the slots of a seat.
use Rattle.std.proofs.Common.{◌≡◌, ℕ, List, [], ◌∷◌, sym, ap, ◌∙◌}
use Rattle.atomic_table.specs.Table.{rest}
use Rattle.mbj_front.specs.declared.slot.Slot.{Slot}
use Rattle.mbj_front.specs.declared.slot.Slot.TheVariants.{Blank, Task, Made}

module _ {J D : Type 0} where
  abbrev slot_in : List (ℕ × Slot J D) → Slot J D
  slot_in [] = Blank
  slot_in (x ∷ xs) = x.1

  pub same_slot : (a b : ℕ) (x y : Slot J D) (l xs ys : List (ℕ × Slot J D)) → l ≡ (a, x) ∷ xs → l ≡ (b, y) ∷ ys → x ≡ y
  same_slot a b x y l xs ys h i = ap slot_in (sym h ∙ i)

  pub same_result : (d e : D) → ◌≡◌ {A = Slot J D} (Made d) (Made e) → d ≡ e
  same_result d e h = cc

  pub same_task : (j k : J) → ◌≡◌ {A = Slot J D} (Task j) (Task k) → j ≡ k
  same_task j k h = cc

  -- the slot is first, before all the others
  pub stands_first : (a : ℕ) (x : Slot J D) (l xs : List (ℕ × Slot J D)) → l ≡ (a, x) ∷ xs → l ≡ (a, x) ∷ rest l
  stands_first a x l xs h = h ∙ (λ i. (a, x) ∷ ap rest (sym h) i)
