-- Blocks between the rounds of CIPHER and INVCIPHER, which are counted from 0 to n.
use Rattle.std.specs.Prelude.{◌≡◌, ℕ, ◌+◌, ◌-◌, ◌≤◌, List}
use Rattle.mbj_types.specs.Aes.{after_rounds, undone_rounds, decipher}
use Rattle.mbj_aes.specs.BlockWords.{block_with}
use Rattle.mbj_aes_lanes.specs.Inside.Layouts.{tower_state, inverse_state}

-- bytes f have the block b after k of them under the schedule w: the block itself, then a state, and at the end what is made of the block
pub record IsHeld (change : List ℕ → List ℕ → List ℕ) (is_after : List ℕ → List ℕ → ℕ → ℕ → (ℕ → ℕ) → Type 0) (w b : List ℕ) (n k : ℕ) (f : ℕ → ℕ) : Type 0 where
  pub first : k ≡ 0 → block_with f ≡ b
  pub between : 1 ≤ k → k ≤ n → is_after w b n k f
  pub last : k ≡ n + 1 → block_with f ≡ change w b

-- the state after k rounds of CIPHER
abbrev pub is_enciphered : List ℕ → List ℕ → ℕ → ℕ → (ℕ → ℕ) → Type 0
is_enciphered w b n k f = tower_state (k - 1) f ≡ after_rounds w b (k - 1)

-- a state after k rounds of INVCIPHER: undoing the rounds that are left gives the deciphered block
abbrev pub is_deciphered : List ℕ → List ℕ → ℕ → ℕ → (ℕ → ℕ) → Type 0
is_deciphered w b n k f = undone_rounds w (inverse_state (n - k) f) (n - k) ≡ decipher w b
