-- What a step told of the place that a seat had before it exchanged the slot.
use Rattle.std.proofs.Common.{◌≡◌, ℕ, List, ◌∷◌, refl, subst}
use mathlib.Core.Option.{none}
use Rattle.atomic_table.specs.Table.{step, rest}
use Rattle.mbj_front.specs.declared.slot.Slot.TheVariants.{Task, Made}
use Rattle.mbj_front.specs.Rule.{place}
use Rattle.mbj_front.specs.Views.{after_finish, after_publish}
use Rattle.mbj_front.specs.Moves.{publishing, finishing, Led}
use Rattle.mbj_front.specs.Inside.Plays.{Mine, FinishTells, PublishTells}

module _ {J D : Type 0} (owed : J → D) (c : ℕ) (me ex n : Mine J D) where
  pub told_published : (j : J) → ex ≡ (me.0, (c, Task j) ∷ rest me.1) → PublishTells owed (step 0 c 0 0 none) ex 0 n → let v = me.0.view in let w = after_publish v (owed j) in
      (n ≡ (place me.0.submitters me.0.workers w, rest me.1)) × Led owed me.0.submitters me.0.workers v (publishing j) w
  told_published j is did = subst (λ m. PublishTells owed (step 0 c 0 0 none) m 0 n) is did j refl

  pub told_finished : (d : D) (hand : List (ℕ × D)) → ex ≡ (me.0, (c, Made d) ∷ rest me.1) → me.0.view.hand ≡ (c, d) ∷ hand → FinishTells owed (step 0 c 0 0 none) ex 0 n → let v = me.0.view in let w = after_finish v hand in
      (n ≡ (place me.0.submitters me.0.workers w, rest me.1)) × Led owed me.0.submitters me.0.workers v (finishing c d) w
  told_finished d hand is has did = subst (λ m. FinishTells owed (step 0 c 0 0 none) m 0 n) is did d hand has
