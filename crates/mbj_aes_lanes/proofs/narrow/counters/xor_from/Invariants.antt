-- The blocks before the next batch are xored, and the counter is that of its first block.
use Rattle.std.proofs.Common.{ℕ, ◌+◌, ◌*◌, List}
use Rattle.mbj_types.specs.Aes.{encipher}
use Rattle.mbj_types.specs.Modes.{ctr_blocks}
use Rattle.mbj_blocks.specs.Walked.{Walked}
use Rattle.mbj_aes_lanes.specs.declared.narrow.by_fours.TheConstants.{BATCH_BLOCKS}
use Rattle.mbj_aes_lanes.proofs.narrow.counters.xor_from.Given as goal

abbrev pub invariant-batches : goal.invariant-batches
invariant-batches l =
    (whole : List ℕ) → Walked (ctr_blocks (encipher l.key) l.first_counter) l.fn.text l.first whole
    → Walked (ctr_blocks (encipher l.key) l.counter) l.text (l.first + BATCH_BLOCKS * l.b) whole
