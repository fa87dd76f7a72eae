-- The state of AES (FIPS 197, 3.4) of the block in each lane, a vector for each of its bytes.
use Rattle.std.specs.Prelude.{ℕ, List, [], ◌∷◌, ◌++◌, map}
use Rattle.mbj_types.specs.Lanes.{lane_of}
use Rattle.mbj_aes.specs.Tower.{from_tower}
use Rattle.mbj_aes_lanes.specs.declared.wide.state.Word.{Word}
use Rattle.mbj_aes_lanes.specs.declared.wide.state.State.{State}

module _ {V : Type 0} (lane : V → ℕ → ℕ) where
  -- the word in lane i
  abbrev pub word_lane : Word V → ℕ → List ℕ
  word_lane w i = lane w.0 i ∷ lane w.1 i ∷ lane w.2 i ∷ lane w.3 i ∷ []

  -- the block in lane i, column after column
  unfoldable pub state_lane : State V → ℕ → List ℕ
  state_lane s i = word_lane s.0 i ++ word_lane s.1 i ++ word_lane s.2 i ++ word_lane s.3 i

  -- the word and the block that stand there in the tower's basis
  abbrev pub tower_word : Word V → ℕ → List ℕ
  tower_word w i = map from_tower (word_lane w i)

  abbrev pub tower_block : State V → ℕ → List ℕ
  tower_block s i = map from_tower (state_lane s i)

  -- the bytes that stand in lane i of lane words in the tower's basis
  abbrev pub tower_lane : List V → ℕ → List ℕ
  tower_lane words i = map from_tower (lane_of lane words i)
