-- The blocks before the next one are encrypted, and the chain is what the next one is xored with.
use Rattle.std.proofs.Common.{◌≡◌, length}
use Rattle.mbj_types.specs.Aes.{encipher}
use Rattle.mbj_types.specs.Modes.{cbc, cbc_text}
use Rattle.mbj_blocks.specs.Walked.{Walked}
use Rattle.mbj_cbc.proofs.plain.encrypt_in_place.Given as goal

abbrev pub invariant-encrypting : goal.invariant-encrypting
invariant-encrypting l =
    (length l.chain ≡ 16)
    × Walked (cbc (encipher l.key) l.chain) l.text l.i (cbc_text (encipher l.key) l.fn.iv l.fn.text)
