-- What a step makes of the party's own part of the front.
use Rattle.std.specs.Prelude.{ℕ, ◌+◌, List, [], ◌∷◌, ◌++◌}
use Rattle.mbj_core.specs.declared.party.View.{View}
use Rattle.mbj_core.specs.declared.party.Phase.{Phase}
use Rattle.mbj_core.specs.declared.party.Phase.TheVariants.{Rest, Emptying}
use Rattle.mbj_core.specs.Parties.{view}
use Rattle.mbj_front.specs.declared.words.TheConstants.{READY, DONE}

module _ {D : Type 0} where
  -- it found the word at the cell
  abbrev pub after_look : View D → ℕ → ℕ → View D
  after_look v cell word = view v.number v.phase v.due v.handed v.hand (v.looks ++ (cell, word) ∷ [])

  -- it claimed the job of the cell, whose result is d
  abbrev pub after_claim : View D → ℕ → D → View D
  after_claim v cell d = view v.number v.phase v.due v.handed (v.hand ++ (cell, d) ∷ []) (v.looks ++ (cell, READY) ∷ [])

  -- it finished a cell, and has this hand left
  abbrev pub after_finish : View D → List (ℕ × D) → View D
  after_finish v hand = view v.number v.phase v.due v.handed hand v.looks

  -- it published a job whose result is d
  abbrev pub after_publish : View D → D → View D
  after_publish v d = view v.number Rest (v.due ++ d ∷ []) v.handed v.hand v.looks

  -- it took its earliest result from the cell
  abbrev pub after_take : View D → ℕ → View D
  after_take v cell = view v.number Emptying v.due (v.handed + 1) v.hand (v.looks ++ (cell, DONE) ∷ [])

  -- only what it is in the midst of has changed
  abbrev pub at_phase : View D → Phase → View D
  at_phase v phase = view v.number phase v.due v.handed v.hand v.looks
