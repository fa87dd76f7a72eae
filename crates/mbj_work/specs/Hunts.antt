-- The looks of a hunt, which goes round all cells.
use Rattle.std.specs.Prelude.{◌≡◌, ◌≢◌, ℕ, ◌+◌, ◌%◌, ◌<◌, List, [], ◌∷◌, ◌++◌, length, All}
use Rattle.mbj_core.specs.declared.party.View.{View}
use Rattle.mbj_core.specs.Parties.{view}
use Rattle.mbj_front.specs.declared.words.TheConstants.{READY}

-- the looks at the cells from `at` on and round, with the word that each found
abbrev pub looks_round : ℕ → ℕ → List ℕ → List (ℕ × ℕ)
looks_round cells at [] = []
looks_round cells at (word ∷ words) = (at % cells, word) ∷ looks_round cells (at + 1) words

module _ {D : Type 0} where
  -- it made these looks
  abbrev pub after_looks : View D → List (ℕ × ℕ) → View D
  after_looks v looks = view v.number v.phase v.due v.handed v.hand (v.looks ++ looks)

  -- it looked once at each of this many cells, from `at` round, and none was ready
  abbrev pub FindsNone : ℕ → ℕ → View D → View D → Type 0
  FindsNone cells at v w =
      (words : List ℕ) × (length words ≡ cells) × All (λ word. word ≢ READY) words
      × (w ≡ after_looks v (looks_round cells at words))

  -- it looked from `at` round to the cell c, which was ready, and none before it was
  abbrev pub FindsReady : ℕ → ℕ → ℕ → View D → View D → Type 0
  FindsReady cells at c v w =
      (words : List ℕ) × (length words < cells) × All (λ word. word ≢ READY) words × (c ≡ (at + length words) % cells)
      × (w ≡ after_looks v (looks_round cells at words ++ (c, READY) ∷ []))

  -- the last looks are those of a hunt over all cells that found none ready
  abbrev pub EndsUnfound : ℕ → View D → View D → Type 0
  EndsUnfound cells v w =
      (before : List (ℕ × ℕ)) × (at : ℕ) × (words : List ℕ) × (length words ≡ cells) × All (λ word. word ≢ READY) words
      × (w.looks ≡ (v.looks ++ before) ++ looks_round cells at words)
