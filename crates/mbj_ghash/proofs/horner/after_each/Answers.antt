-- One block more is taken.
use Rattle.std.proofs.Common.{[], slice_index_or, ap, ◌∙◌}
use Rattle.mbj_types.specs.Blocks.{xor_lists}
use Rattle.mbj_types.specs.Ghash.{block_product}
use Rattle.mbj_ghash.proofs.BlockRuns.{ghash_from-next}
use Rattle.mbj_ghash.proofs.horner.after_each.Goals as goal

pub loop-block-preserved : goal.loop-block-preserved
loop-block-preserved c h are =
    let xs = c.args.blocks.now in
    let i = c.loop-block.block-index in
    ghash_from-next h c.args.value.now xs i [] c.after_block-sum.result c.loop-block-test.true
    (c.after_block-sum.ensures h are ∙ ap (λ t. block_product (xor_lists t (slice_index_or xs i [])) h) (c.loop-block.invariant h are))
