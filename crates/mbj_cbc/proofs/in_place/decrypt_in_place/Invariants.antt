-- The blocks before the next batch are decrypted, and the chain is what its first block is xored with.
use Rattle.std.proofs.Common.{◌*◌}
use Rattle.mbj_aes_lanes.specs.declared.narrow.by_fours.TheConstants.{BATCH_BLOCKS}
use Rattle.mbj_types.specs.Aes.{decipher}
use Rattle.mbj_types.specs.Modes.{uncbc, uncbc_text}
use Rattle.mbj_blocks.specs.Walked.{Walked}
use Rattle.mbj_cbc.proofs.in_place.decrypt_in_place.Given as goal

abbrev pub invariant-batches : goal.invariant-batches
invariant-batches l =
    Walked (uncbc (decipher l.fn.key) l.chain) l.text (BATCH_BLOCKS * l.b) (uncbc_text (decipher l.fn.key) l.fn.iv l.fn.text)
