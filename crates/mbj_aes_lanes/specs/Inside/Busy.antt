-- Changes of entries one after another, and lanes that are idle.
use Rattle.std.specs.Prelude.{◌≡◌, ℕ, ◌<◌, ◌≤◌, Option, None}
use Rattle.mbj_types.specs.declared.kind.TheConstants.{AES_LANES}

module _ {E : Type 0} where
  -- no lane from n on has an entry
  abbrev pub AreIdleFrom : ℕ → (ℕ → Option E) → Type 0
  AreIdleFrom n es = (i : ℕ) → n ≤ i → i < AES_LANES → es i ≡ None

  -- the entries in the first n lanes were changed, each in its own way
  pub record AreGiven (change : ℕ → Option E → Option E) (n : ℕ) (old now : ℕ → Option E) : Type 0 where
    pub given : (i : ℕ) → i < n → now i ≡ change i (old i)
    pub left : (i : ℕ) → n ≤ i → i < AES_LANES → now i ≡ old i
