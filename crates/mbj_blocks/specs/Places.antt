-- The blocks of a text by their numbers, from 0 on. Block i is the 16 bytes from 16 * i on, or what is left there.
use Rattle.std.specs.Prelude.{ℕ, ◌+◌, ◌*◌, List, ◌++◌, take, drop}

abbrev pub block_of : List ℕ → ℕ → List ℕ
block_of text i = take 16 (drop (16 * i) text)

-- the text with other bytes in the place of block i
abbrev pub with_block : List ℕ → ℕ → List ℕ → List ℕ
with_block text i block = take (16 * i) text ++ block ++ drop (16 * (i + 1)) text
