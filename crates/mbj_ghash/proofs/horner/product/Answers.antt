use Rattle.std.proofs.Common.{ap, ◌∙◌}
use Rattle.mbj_types.specs.Field.{add, product}
use Rattle.mbj_types.specs.Ghash.{element}
use Rattle.mbj_ghash.proofs.HashSteps.{none_added}
use Rattle.mbj_ghash.proofs.Numbers.{block_product-is}
use Rattle.mbj_ghash.proofs.horner.product.Goals as goal

pub returns : goal.returns
returns c h are =
    block_product-is c.reduced.result c.args.block.now h c.reduced.ensures.block
    (c.reduced.ensures.sum ∙ c.add.ensures h are
    ∙ ap (λ p. add p (product (element c.args.block.now) (element h))) c.new-sum.ensures ∙ none_added c.args.block.now h)
