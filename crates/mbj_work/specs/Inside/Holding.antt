-- What a party keeps between its calls.
use Rattle.std.specs.Prelude.{◌≡◌, ℕ, ◌≤◌, List, [], map, Vec, vec_capacity}
use Rattle.std.specs.declared.alloc.Global.{Global}
use Rattle.circular_buffer.specs.Buffer.{Buffer, buffer}
use Rattle.mbj_types.specs.declared.done.Done.{Done}
use Rattle.mbj_core.specs.declared.party.View.{View}
use Rattle.mbj_core.specs.declared.party.Phase.TheVariants.{Rest}
use Rattle.mbj_manager.specs.State.{ManagerState}
use Rattle.mbj_work.specs.declared.party.TheConstants.{HAND_ROOM}

-- the cells of a hand, and their jobs' results, in the order of the claims
abbrev pub cells_in : List (ℕ × Done) → List ℕ
cells_in hand = map (λ e. e.0) hand

abbrev pub results_in : List (ℕ × Done) → List Done
results_in hand = map (λ e. e.1) hand

-- a party with this part of the front, this manager and these cells
pub record Holds (v : View Done) (manager : ManagerState) (cells : Buffer ℕ) : Type 0 where
  pub rest : v.phase ≡ Rest
  pub cells_are : cells ≡ buffer (cells_in v.hand) HAND_ROOM
  -- the manager owes the results of the hand
  pub owed_is : manager.owed ≡ results_in v.hand

-- no result is in the list, which has room for those of a hand
pub record HasRoom (settled : Vec Done Global) : Type 0 where
  pub none : settled.items ≡ []
  pub room : HAND_ROOM ≤ vec_capacity settled
