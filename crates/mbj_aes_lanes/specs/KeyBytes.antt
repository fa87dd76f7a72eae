-- Keys in arrays of 32 bytes.
use Rattle.std.specs.Prelude.{◌≡◌, ℕ, ◌-◌, ◌*◌, List, ◌++◌, length, take, replicate}
use Rattle.mbj_aes.specs.Bytes.{IsBytes}

-- the key of n rounds that an array begins with
abbrev pub key_of_array : ℕ → List ℕ → List ℕ
key_of_array n xs = take (4 * (n - 6)) xs

-- there are zeros behind it
pub record IsKeyArray (n : ℕ) (xs : List ℕ) : Type 0 where
  pub size : length xs ≡ 32
  pub bytes : IsBytes xs
  pub zeros : xs ≡ key_of_array n xs ++ replicate (32 - 4 * (n - 6)) 0
