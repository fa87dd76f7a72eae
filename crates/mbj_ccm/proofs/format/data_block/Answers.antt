-- The first block begins with the length, and each other one 2 bytes before its place.
use Rattle.std.proofs.Common.{sym, ◌∙◌, arith}
use Rattle.mbj_ccm.proofs.Formatted.{data_block-first, data_block-other}
use Rattle.mbj_ccm.proofs.format.data_block.Goals as goal

pub returns-then-i-eq0 : goal.returns-then-i-eq0
returns-then-i-eq0 c = rw c.if-i-eq0.true (c.first_data_block.ensures ∙ sym (data_block-first c.args.aad.now (omega arith)))

pub returns-else-i-eq0 : goal.returns-else-i-eq0
returns-else-i-eq0 c =
    c.filled_from.ensures ∙ sym (data_block-other c.args.aad.now c.args.i (omega arith) c.requires.inside)
