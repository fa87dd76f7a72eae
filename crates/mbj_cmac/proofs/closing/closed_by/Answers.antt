-- A block that isn't whole is padded, and a whole one stands as it is.
use Rattle.std.proofs.Common.{◌∙◌, ap, ap₂, arith, rules, slice_set, length}
use Rattle.std.proofs.lemmas.Bool.{ne_eqb}
use Rattle.mbj_types.specs.Blocks.{xor_lists}
use Rattle.mbj_cmac.proofs.Messages.{padded}
use Rattle.mbj_cmac.proofs.closing.closed_by.Goals as goal

pub returns-else-last-eq-BLOCK_BYTES : goal.returns-else-last-eq-BLOCK_BYTES
returns-else-last-eq-BLOCK_BYTES c =
    rw (ne_eqb _ _ c.if-last-eq-BLOCK_BYTES.false)
    (c.xor_in_place-else-last-eq-BLOCK_BYTES.ensures
    ∙ ap₂ xor_lists
    (ap (λ b. slice_set b (length c.args.last.now) 0x80) c.filled_block-block.ensures ∙ padded c.args.last.now (omega arith))
    (search rules))

pub returns-then-last-eq-BLOCK_BYTES : goal.returns-then-last-eq-BLOCK_BYTES
returns-then-last-eq-BLOCK_BYTES c = search rules
