-- A text that is worked on in place, block after block.
use Rattle.std.specs.Prelude.{◌≡◌, ℕ, ◌*◌, List, ◌++◌, take, drop}
use Rattle.std.specs.List.{concat}
use Rattle.mbj_types.specs.Blocks.{blocks}

-- the blocks before block i are done, and with what rest makes of the others they are the whole
abbrev pub Walked : (List (List ℕ) → List (List ℕ)) → List ℕ → ℕ → List ℕ → Type 0
Walked rest text i whole = take (16 * i) text ++ concat (rest (blocks (drop (16 * i) text))) ≡ whole
