-- Entries that move to the first slots: to slot p comes what stands in slot from p, one after another, and what stood in its way goes there.
use Rattle.std.specs.Prelude.{ℕ, zero, suc, ◌<◌, List, swap}
use Rattle.mbj_types.specs.declared.kind.TheConstants.{AES_LANES}

-- the first n of the numbers are lanes
abbrev pub AreLanes : (ℕ → ℕ) → ℕ → Type 0
AreLanes from n = (p : ℕ) → p < n → from p < AES_LANES

module _ {A : Type 0} (from : ℕ → ℕ) where
  -- after n of them
  abbrev pub gathered : ℕ → List A → List A
  gathered zero es = es
  gathered (suc n) es = swap (gathered n es) n (from n)

  -- n of them undone, the last one first
  abbrev pub ungathered : ℕ → List A → List A
  ungathered zero es = es
  ungathered (suc n) es = ungathered n (swap es n (from n))
