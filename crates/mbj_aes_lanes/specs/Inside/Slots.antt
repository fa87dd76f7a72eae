-- Entries in lanes. A function says what stands in each lane; an idle one has no entry.
use Rattle.std.specs.Prelude.{◌≡◌, ℕ, ◌<◌, ◌≤◌, List, Option, Some, None}
use Rattle.mbj_types.specs.Aes.{encipher}
use Rattle.mbj_types.specs.Blocks.{zero_block}
use Rattle.mbj_types.specs.declared.kind.TheConstants.{AES_LANES}

module _ {E : Type 0} where
  -- what a lane takes of its entry: an idle one a block of zeros
  abbrev pub of_slot : (E → List ℕ) → Option E → List ℕ
  of_slot f None = zero_block
  of_slot f (Some e) = f e

  -- an entry has at least m rounds left
  abbrev pub HasRounds : (E → ℕ) → ℕ → Option E → Type 0
  HasRounds rest m None = Unit {0}
  HasRounds rest m (Some e) = m ≤ rest e

  -- each entry has
  abbrev pub HaveRounds : (E → ℕ) → ℕ → (ℕ → Option E) → Type 0
  HaveRounds rest m es = (i : ℕ) (e : E) → i < AES_LANES → es i ≡ Some e → m ≤ rest e

  -- w is the schedule of an entry
  abbrev pub IsKeyOf : (E → List ℕ) → List ℕ → Option E → Type 0
  IsKeyOf key w None = Unit {0}
  IsKeyOf key w (Some e) = w ≡ key e

  -- each lane of the first n has the schedule of its entry
  abbrev pub AreKeyed : (E → List ℕ) → (ℕ → Option E) → ℕ → (ℕ → List ℕ) → Type 0
  AreKeyed key es n schedule = (i : ℕ) → i < n → IsKeyOf key (schedule i) (es i)

  -- L of CMAC under an entry's key: the zero block enciphered (SP 800-38B, 6.1)
  abbrev pub IsCmacL : (E → List ℕ) → List ℕ → Option E → Type 0
  IsCmacL key l None = Unit {0}
  IsCmacL key l (Some e) = l ≡ encipher (key e) zero_block
