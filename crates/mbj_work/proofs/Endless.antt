-- A loop that only a break ends.
use Rattle.std.proofs.Common.{◌≡◌, Option, None, true, false, subst}
use Rattle.std.specs.Option.{IsSome}

-- there is always a next turn
pub never_none : {A : Type 0} (o : Option A) → IsSome o → o ≡ None → ⊥
never_none {A} o some none = let no : false ≡ true = subst (λ (x : Option A). IsSome x) none some in cc
