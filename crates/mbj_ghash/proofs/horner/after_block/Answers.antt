use Rattle.std.proofs.Common.{ap, ◌∙◌}
use Rattle.mbj_types.specs.Ghash.{block_product}
use Rattle.mbj_ghash.proofs.horner.after_block.Goals as goal

pub returns : goal.returns
returns c h are = c.product.ensures h are ∙ ap (λ x. block_product x h) c.xored.ensures
