-- From the chaining value on, the blocks that are left lead to the CMAC.
use Rattle.std.proofs.Common.{◌≡◌, ◌*◌, length, drop}
use Rattle.mbj_types.specs.Aes.{encipher}
use Rattle.mbj_types.specs.Blocks.{last_or}
use Rattle.mbj_types.specs.Modes.{cbc}
use Rattle.mbj_types.specs.Cmac.{closed, message_blocks, cmac}
use Rattle.mbj_cmac.proofs.plain.cmac_plain.Given as goal

abbrev pub invariant-chaining : goal.invariant-chaining
invariant-chaining l =
    let e = encipher l.key in
    (length l.chain ≡ 16)
    × (last_or l.chain (cbc e l.chain (closed e (message_blocks (drop (16 * l.i) l.message)))) ≡ cmac e l.fn.message)
