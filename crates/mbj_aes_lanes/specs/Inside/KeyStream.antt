-- The key stream of counters, block by block.
use Rattle.std.specs.Prelude.{◌≡◌, ℕ, ◌+◌, ◌%◌, ◌^◌, ◌<◌, List, [], length, slice_index_or}
use Rattle.std.specs.Int.{w128, to_be_bytes}

-- the outputs are the counters from t on, each enciphered by e
abbrev pub IsKeyStream : (List ℕ → List ℕ) → ℕ → List (List ℕ) → Type 0
IsKeyStream e t outputs = (j : ℕ) → j < length outputs → slice_index_or outputs j [] ≡ e (to_be_bytes w128 ((t + j) % 2 ^ 128))
