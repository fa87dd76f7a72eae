-- What each step on a word tells the seat that makes it: m is the seat before, r the word found, n the seat after.
use Rattle.std.specs.Prelude.{◌≡◌, ◌≢◌, ℕ, ◌==◌, List, ◌∷◌, slice_get, Some}
use mathlib.Core.Option.{none}
use prog.Atomic.{either}
use Rattle.atomic_table.specs.Table.{Me, Step, step, rest, Allows}
use Rattle.mbj_core.specs.declared.party.Phase.TheVariants.{Rest, Opening}
use Rattle.mbj_front.specs.declared.slot.Slot.{Slot}
use Rattle.mbj_front.specs.declared.slot.Slot.TheVariants.{Blank, Task, Made}
use Rattle.mbj_front.specs.declared.place.Place.{Place}
use Rattle.mbj_front.specs.declared.words.TheConstants.{READY}
use Rattle.mbj_front.specs.Rule.{place, Rule}
use Rattle.mbj_front.specs.Views.{after_look, after_claim, after_finish, after_publish, after_take, at_phase}
use Rattle.mbj_front.specs.Moves.{opening, publishing, claiming, finishing, taking, freeing, looking, Led}

-- what a seat of the table knows and holds
abbrev pub Mine : Type 0 → Type 0 → Type 0
Mine J D = Me (Slot J D) (Place D)

module _ {J D : Type 0} (owed : J → D) (play : Step (Slot J D)) (m : Mine J D) (r : ℕ) (n : Mine J D) where
  abbrev pub LookTells : Type 0
  LookTells = let v = m.0.view in let w = after_look v play.word r in
      (n ≡ (place m.0.submitters m.0.workers w, m.1)) × Led owed m.0.submitters m.0.workers v (looking play.word r) w

  -- if the word was the one looked for
  abbrev pub ClaimTells : Type 0
  ClaimTells = let v = m.0.view in
      (r ≡ play.first → (j : J) × (let w = after_claim v play.word (owed j) in
      (n ≡ (place m.0.submitters m.0.workers w, (play.word, Task j) ∷ m.1)) × Led owed m.0.submitters m.0.workers v (claiming play.word j) w))
      × (r ≢ play.first → LookTells)

  -- for the result d of the first in the hand
  abbrev pub FinishTells : Type 0
  FinishTells = let v = m.0.view in
      (d : D) (hand : List (ℕ × D)) → v.hand ≡ (play.word, d) ∷ hand → let w = after_finish v hand in
      (n ≡ (place m.0.submitters m.0.workers w, rest m.1)) × Led owed m.0.submitters m.0.workers v (finishing play.word d) w

  abbrev pub OpenTells : Type 0
  OpenTells = let v = m.0.view in let w = at_phase v Opening in
      (n ≡ (place m.0.submitters m.0.workers w, (play.word, Blank) ∷ m.1)) × Led owed m.0.submitters m.0.workers v opening w

  -- for the job in the slot that the seat brings home
  abbrev pub PublishTells : Type 0
  PublishTells = let v = m.0.view in
      (j : J) → m.1 ≡ (play.word, Task j) ∷ rest m.1 → let w = after_publish v (owed j) in
      (n ≡ (place m.0.submitters m.0.workers w, rest m.1)) × Led owed m.0.submitters m.0.workers v (publishing j) w

  abbrev pub TakeTells : Type 0
  TakeTells = let v = m.0.view in
      (r ≡ play.first → (d : D) × (slice_get v.due v.handed ≡ Some d) × (let w = after_take v play.word in
      (n ≡ (place m.0.submitters m.0.workers w, (play.word, Made d) ∷ m.1)) × Led owed m.0.submitters m.0.workers v (taking d) w))
      × (r ≢ play.first → LookTells)

  abbrev pub FreeTells : Type 0
  FreeTells = let v = m.0.view in let w = at_phase v Rest in
      (n ≡ (place m.0.submitters m.0.workers w, rest m.1)) × Led owed m.0.submitters m.0.workers v freeing w

module _ {J D : Type 0} (owed : J → D) (slots : ℕ) where
  -- the seat m tried a claim of the cell, for the word `hand`, found the word r, and is n
  abbrev pub ClaimTold : ℕ → ℕ → Mine J D → ℕ → Mine J D → Type 0
  ClaimTold cell hand m r n = ClaimTells owed (step slots cell READY hand none) m r n

  -- whatever the table is at that moment, the word of the cell may become `hand` if it is READY
  abbrev pub ClaimIsAllowed : ℕ → ℕ → ℕ → ℕ → ℕ → Mine J D → Type 0
  ClaimIsAllowed submitters workers seat cell hand m =
      Allows (Rule owed submitters workers) slots seat m cell (λ found. either (found == READY) hand found) (ClaimTold cell hand m)
