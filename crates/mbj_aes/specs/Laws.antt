-- What holds of each key and each block.
use Rattle.std.specs.Prelude.{◌≡◌, ℕ, List}
use Rattle.mbj_aes.specs.Bytes.{IsKey, IsBlock}

-- under each key, what change makes of a block undo makes that block again
abbrev pub Undoes : (List ℕ → List ℕ → List ℕ) → (List ℕ → List ℕ → List ℕ) → Type 0
Undoes undo change = (key b : List ℕ) → IsKey key → IsBlock b → undo key (change key b) ≡ b

-- under each key, change makes a block of each block
abbrev pub KeepsBlocks : (List ℕ → List ℕ → List ℕ) → Type 0
KeepsBlocks change = (key b : List ℕ) → IsKey key → IsBlock b → IsBlock (change key b)
