-- Blocks that are chained under a key of their own in each lane (SP 800-38A, 6.2).
use Rattle.std.specs.Prelude.{ℕ, List}
use Rattle.mbj_types.specs.Aes.{encipher}
use Rattle.mbj_types.specs.Blocks.{xor_lists}

module _ {E : Type 0} where
  -- the input block: the next block xored with the chaining value
  abbrev pub input_of : (E → List ℕ) → (E → List ℕ) → E → List ℕ
  input_of block chain e = xor_lists (block e) (chain e)

  -- the next chaining value
  abbrev pub next_chain : (E → List ℕ) → (E → List ℕ) → (E → List ℕ) → E → List ℕ
  next_chain key block chain e = encipher (key e) (input_of block chain e)

  -- the next block is chained: `advanced` says what an entry is once its next block gave a chaining value, and `kept` what it is with
  -- that one
  abbrev pub chained_once : (E → List ℕ) → (E → List ℕ) → (E → List ℕ) → (E → List ℕ → E) → (E → List ℕ → E) → E → E
  chained_once key block chain advanced kept e = kept (advanced e (next_chain key block chain e)) (next_chain key block chain e)
