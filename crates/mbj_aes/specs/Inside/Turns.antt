-- Where a word of a schedule stands.
use Rattle.std.specs.Prelude.{◌≡◌, ℕ, ◌/◌, ◌%◌}
use Rattle.mbj_aes.specs.declared.expansion.Turn.{Turn}

-- word i of the schedule of a key of n words
pub record IsTurn (n i : ℕ) (t : Turn) : Type 0 where
  pub place : t.place ≡ i % n
  pub number : t.number ≡ i / n
