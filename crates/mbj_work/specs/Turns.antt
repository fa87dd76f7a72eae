-- What a turn makes of a hand.
use Rattle.std.specs.Prelude.{◌≡◌, ℕ, zero, suc, List, [], ◌∷◌, ◌++◌, drop}

module _ {X : Type 0} where
  -- some left at its front
  abbrev pub GivesBack : List X → List X → Type 0
  GivesBack h k = (n : ℕ) × (k ≡ drop n h)

  -- this many came to its end, one after another, and some left at its front between them
  abbrev pub ClaimsInTurn : ℕ → List X → List X → Type 0
  ClaimsInTurn zero h k = GivesBack h k
  ClaimsInTurn (suc n) h k = (g : List X) × (x : X) × ClaimsInTurn n h g × GivesBack (g ++ x ∷ []) k
