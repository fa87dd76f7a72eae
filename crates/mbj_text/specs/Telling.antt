-- What is told of a state that goes on: lines, and the state after what they tell.
use Rattle.std.specs.Prelude.{List, ◌++◌}

abbrev pub Told : Type 0 → Type 0 → Type 0
Told Line State = List Line × State

-- what is told first, and what is told next from the state after that
abbrev pub then_told : {Line State : Type 0} → Told Line State → (State → Told Line State) → Told Line State
then_told first next = (first.0 ++ (next first.1).0, (next first.1).1)
