-- What is told in turn.
use Rattle.std.proofs.Common.{◌≡◌, ◌∙◌, ◌++◌, List, ap}
use Rattle.mbj_text.specs.Telling.{Told, then_told}

-- what is told behind what was told before
pub after-told : {Line State : Type 0} (told : Told Line State) (next : State → Told Line State) (before lines : List Line) (old new : State)
    → before ≡ told.0 → old ≡ told.1 → lines ≡ before ++ (next old).0 → new ≡ (next old).1
    → (lines ≡ (then_told told next).0) × (new ≡ (then_told told next).1)
after-told told next before lines old new told_before is_old more is_new = (
  more ∙ ap (λ ls. ls ++ (next old).0) told_before ∙ ap (λ t. told.0 ++ (next t).0) is_old,
  is_new ∙ ap (λ t. (next t).1) is_old,
)
