-- The blocks before the next one are copied.
use Rattle.std.proofs.Common.{◌≡◌, ℕ, ◌+◌, ◌<◌, [], get_or}
use Rattle.mbj_blocks.specs.Places.{block_of}
use Rattle.mbj_cbc.proofs.in_place.copy_blocks.Given as goal

abbrev pub invariant-each : goal.invariant-each
invariant-each l = (k : ℕ) → k < l.j → get_or l.blocks k [] ≡ block_of l.text (l.first + k)
