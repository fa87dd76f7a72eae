-- Arrays of a fixed length whose first bytes alone count.
use Rattle.std.specs.Prelude.{◌≡◌, ℕ, ◌-◌, List, ◌++◌, length, take, replicate}

-- an array of len bytes: its first n, and zeros
pub record IsPadded (len n : ℕ) (xs : List ℕ) : Type 0 where
  pub size : length xs ≡ len
  pub rest : xs ≡ take n xs ++ replicate (len - n) 0
