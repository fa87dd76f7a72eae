-- The state of the front: its cells, and each party's part.
use Rattle.std.specs.Prelude.{ℕ, List, []}
use Rattle.mbj_core.specs.Cells.{Cell, free}
use Rattle.mbj_core.specs.declared.party.View.{View}
use Rattle.mbj_core.specs.declared.party.Phase.{Phase}
use Rattle.mbj_core.specs.declared.party.Phase.TheVariants.{Rest}

-- Party p is the submitter p if p is below the number of submitters, and else a worker.
pub record FrontState (J D : Type 0) : Type 0 where
  pub cells : ℕ → Cell J D
  pub seats : ℕ → View D

module _ {D : Type 0} where
  abbrev pub view : ℕ → Phase → List D → ℕ → List (ℕ × D) → List (ℕ × ℕ) → View D
  view p phase due handed hand looks = record { number = p; phase = phase; due = due; handed = handed; hand = hand; looks = looks }

  -- a party that has done nothing
  abbrev pub new_party : ℕ → View D
  new_party p = view p Rest [] 0 [] []

  -- the same party with another list of results, with n results handed out, and with another hand
  abbrev pub with_due : View D → List D → View D
  with_due v due = view v.number v.phase due v.handed v.hand v.looks

  abbrev pub with_handed : View D → ℕ → View D
  with_handed v n = view v.number v.phase v.due n v.hand v.looks

  abbrev pub with_hand : View D → List (ℕ × D) → View D
  with_hand v hand = view v.number v.phase v.due v.handed hand v.looks

module _ {J D : Type 0} where
  abbrev pub front : (ℕ → Cell J D) → (ℕ → View D) → FrontState J D
  front cells seats = record { cells = cells; seats = seats }

  -- the front in which nobody has done anything
  abbrev pub new_front : FrontState J D
  new_front = front (λ c. free) new_party
