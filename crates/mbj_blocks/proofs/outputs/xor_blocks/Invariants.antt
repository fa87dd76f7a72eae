-- The blocks before the next one are xored.
use Rattle.std.proofs.Common.{◌≡◌, ℕ, ◌+◌, ◌<◌, List, [], ◌∷◌, get_or, length}
use Rattle.mbj_types.specs.Blocks.{xor_lists}
use Rattle.mbj_blocks.specs.Walked.{Walked}
use Rattle.mbj_blocks.proofs.outputs.xor_blocks.Given as goal

abbrev pub invariant-each : goal.invariant-each
invariant-each l =
    (rest : ℕ → List (List ℕ) → List (List ℕ)) (whole : List ℕ)
    → ((j : ℕ) (b : List ℕ) (bs : List (List ℕ)) → j < length l.outputs
    → rest j (b ∷ bs) ≡ xor_lists b (get_or l.outputs j []) ∷ rest (j + 1) bs)
    → Walked (rest 0) l.initial.text l.first whole → Walked (rest l.j) l.text (l.first + l.j) whole
