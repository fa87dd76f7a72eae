-- Keys, blocks and schedules as lists of bytes, a byte being a number below 256 (FIPS 197, 3 and 5).
use Rattle.std.specs.Prelude.{◌≡◌, ℕ, ◌<◌, ◌⊎◌, List, length, IsTrue}
use Rattle.std.specs.List.{All}
use Rattle.mbj_types.specs.Aes.{is_key_size}

abbrev pub IsBytes : List ℕ → Type 0
IsBytes xs = All (λ x. x < 256) xs

-- a block of 16 bytes
pub record IsBlock (b : List ℕ) : Type 0 where
  pub size : length b ≡ 16
  pub bytes : IsBytes b

abbrev pub IsKeySize : ℕ → Type 0
IsKeySize n = IsTrue (is_key_size n)

-- how many words of 4 bytes a key has
abbrev pub IsKeyWords : ℕ → Type 0
IsKeyWords n = (n ≡ 4) ⊎ ((n ≡ 6) ⊎ (n ≡ 8))

-- how many rounds a schedule has
abbrev pub IsRoundCount : ℕ → Type 0
IsRoundCount n = (n ≡ 10) ⊎ ((n ≡ 12) ⊎ (n ≡ 14))

-- a key of 16, 24 or 32 bytes
pub record IsKey (key : List ℕ) : Type 0 where
  pub size : IsKeySize (length key)
  pub bytes : IsBytes key
